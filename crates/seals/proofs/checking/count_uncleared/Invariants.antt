use Rattle.std.proofs.Common.{◌≡◌, ◌≤◌, length}
use Rattle.seals.specs.Cleared.{uncleared}
use Rattle.seals.proofs.checking.count_uncleared.Given as goal

abbrev pub invariant-loop-index : goal.invariant-loop-index
invariant-loop-index l = (l.count ≤ l.index) × (l.count ≡ length (uncleared l.cleared l.index))
