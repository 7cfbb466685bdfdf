use Rattle.std.proofs.Common.{◌≡◌, ℕ, ◌≤◌, ◌||◌}
use Rattle.families.specs.Numbers.{among}
use Rattle.seals.specs.Cleared.{is_cleared}
use Rattle.seals.proofs.Framed.{There}
use Rattle.seals.proofs.checking.clear_row.Given as goal

-- with the blocks that are left, those are cleared that were and those that the row holds
abbrev pub invariant-loop-number : goal.invariant-loop-number
invariant-loop-number g l =
    (goal.iterator-loop-number g).can_next l.number-iterator
    × (goal.iterator-loop-number g).is_finite l.number-iterator
    × There (g.F.Family.shape l.family).blocks l.number-iterator
    × ((j : ℕ) → 1 ≤ j → (is_cleared l.cleared j || among j l.number-iterator) ≡ (is_cleared l.initial.cleared j || (g.F.Family.shape l.family).holds l.fn.row.0 j))
