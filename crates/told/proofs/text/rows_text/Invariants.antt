use Rattle.std.proofs.Common.{◌≡◌, string_bytes}
use Rattle.told.proofs.Told.{told_up_to}
use Rattle.told.proofs.text.rows_text.Given as goal

-- the rows up to `below` are told
abbrev pub invariant-loop-below : goal.invariant-loop-below
invariant-loop-below g l = string_bytes l.text ≡ told_up_to (λ row. (g.F.Family.shape l.family).holds row l.block.0) l.below
