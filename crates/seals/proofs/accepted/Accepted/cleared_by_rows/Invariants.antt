use Rattle.std.proofs.Common.{◌≡◌, ℕ, ◌-◌, ◌≤◌}
use Rattle.families.specs.Numbers.{numbers, any_of}
use Rattle.sheets.specs.Blocks.{blocks_of}
use Rattle.seals.specs.Scheme.{scheme}
use Rattle.seals.specs.Cleared.{is_cleared}
use Rattle.seals.specs.Passing.{clears}
use Rattle.seals.proofs.accepted.Accepted.cleared_by_rows.Given as goal

-- what the rows before this one clear
abbrev pub invariant-loop-row : goal.invariant-loop-row
invariant-loop-row g l =
    (j : ℕ) → 1 ≤ j
    → is_cleared l.cleared j ≡ any_of (clears (scheme g.D.Digest.digest g.D.Digest.KIND (g.F.Family.shape l.family)) l.self.part.now (blocks_of l.sheet) j) (numbers 1 (l.row - 1))
