use Rattle.std.proofs.Common.{◌≡◌, ◌≤◌, length}
use Rattle.families.specs.Shape.{row_list}
use Rattle.seals.proofs.Taken.{place_among}
use Rattle.seals.proofs.excerpts.take_apart.Given as goal

-- the place is that among the blocks that are left, in what is left of the excerpt
abbrev pub invariant-loop-number : goal.invariant-loop-number
invariant-loop-number g l =
    let place_of = place_among (length l.excerpt) l.block.0 in
    (goal.iterator-loop-number g).can_next l.number-iterator
    × (goal.iterator-loop-number g).is_finite l.number-iterator
    × (length l.left ≤ length l.excerpt)
    × (place_of (row_list (g.F.Family.shape l.family) l.fn.row.0) 0 l.excerpt ≡ place_of l.number-iterator l.place l.left)
