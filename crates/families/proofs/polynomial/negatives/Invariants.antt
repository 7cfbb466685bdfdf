use Rattle.std.proofs.Common.{◌≡◌, length}
use Rattle.families.specs.Polynomial.{Negated}
use Rattle.families.proofs.polynomial.negatives.Given as goal

-- the numbers below have their entries
abbrev pub invariant-loop-number : goal.invariant-loop-number
invariant-loop-number g l =
    let F = g.F.Field in
    (length l.negatives ≡ 544) × Negated (F.order l.field) (F.plus l.field) (F.times l.field) l.k l.number l.negatives
