-- A buffer that a signature fills.
use Rattle.std.proofs.Common.{◌≡◌, ◌++◌, length, drop, ap, ◌∙◌}
use Rattle.std.proofs.Math.Seq.{drop-length}
use Rattle.std.proofs.lemmas.List.{append-nil}
use Rattle.scripts.specs.Words.{Bytes}

pub filled : (signature before : Bytes) → length signature ≡ length before → signature ++ drop (length signature) before ≡ signature
filled signature before l = ap (λ n. signature ++ drop n before) l ∙ ap (λ b. signature ++ b) (drop-length before) ∙ append-nil signature
