use Rattle.std.proofs.Common.{◌≡◌, ◌≤◌, length}
use Rattle.lms.specs.Nodes.{LeavesTo, InnerFrom}
use Rattle.lms.proofs.tree.nodes.Given as goal

-- all leaves stand in their places, and so do the inner nodes from this one on
abbrev pub invariant-loop-node : goal.invariant-loop-node
invariant-loop-node g l =
    (1 ≤ l.node)
    × (l.node ≤ 32)
    × (length l.nodes ≡ 64)
    × LeavesTo g.D.Digest.digest l.id l.seed l.nodes 64
    × InnerFrom g.D.Digest.digest l.id l.nodes l.node

abbrev pub decreases-loop-node : goal.decreases-loop-node
decreases-loop-node g l = l.node
