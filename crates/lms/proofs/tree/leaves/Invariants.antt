use Rattle.std.proofs.Common.{◌≡◌, ◌+◌, length}
use Rattle.lms.specs.Nodes.{LeavesTo}
use Rattle.lms.proofs.tree.leaves.Given as goal

-- the leaves so far stand in their places
abbrev pub invariant-loop-number : goal.invariant-loop-number
invariant-loop-number g l = (length l.nodes ≡ 64) × LeavesTo g.D.Digest.digest l.id l.seed l.nodes (32 + l.number)
