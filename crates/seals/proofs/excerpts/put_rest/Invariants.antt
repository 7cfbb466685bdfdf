use Rattle.std.proofs.Common.{length}
use Rattle.sheets.specs.Blocks.{blocks_of}
use Rattle.seals.specs.Images.{row_rest}
use Rattle.seals.proofs.Framed.{There}
use Rattle.seals.proofs.Put.{PutSoFar}
use Rattle.seals.proofs.excerpts.put_rest.Given as goal

abbrev pub invariant-loop-number : goal.invariant-loop-number
invariant-loop-number g l =
    let bs = blocks_of l.sheet in
    (goal.iterator-loop-number g).can_next l.number-iterator
    × (goal.iterator-loop-number g).is_finite l.number-iterator
    × There (length bs) l.number-iterator
    × PutSoFar bs l.block.0 l.number-iterator (row_rest (g.F.Family.shape l.family).holds l.fn.row.0 l.block.0 bs) l.fn.out l.out l.place
