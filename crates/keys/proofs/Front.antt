-- A buffer with bytes written to its front.
use Rattle.std.proofs.Common.{◌≡◌, true, ◌++◌, length, take, refl, ap, ◌∙◌}
use Rattle.std.proofs.lemmas.List.{take_at}
use Rattle.digests.specs.Strings.{Bytes, same}
use Rattle.keys.specs.Same.{same_self}

pub front_same : (bytes behind : Bytes) → same (take (length bytes) (bytes ++ behind)) bytes ≡ true
front_same bytes behind = ap (λ s. same s bytes) (take_at bytes behind (length bytes) refl) ∙ same_self bytes
