use Rattle.std.proofs.Common.{◌≡◌, ◌+◌, length}
use Rattle.sheets.specs.Blocks.{blocks_of}
use Rattle.seals.specs.Images.{row_rest}
use Rattle.seals.proofs.Framed.{There}
use Rattle.seals.proofs.Rest.{rest}
use Rattle.seals.proofs.excerpts.rest_length.Given as goal

-- with the length of the frames that are left it is the whole length
abbrev pub invariant-loop-number : goal.invariant-loop-number
invariant-loop-number g l =
    (goal.iterator-loop-number g).can_next l.number-iterator
    × (goal.iterator-loop-number g).is_finite l.number-iterator
    × There (length (blocks_of l.sheet)) l.number-iterator
    × (l.length + length (rest (blocks_of l.sheet) l.block.0 l.number-iterator) ≡ length (row_rest (g.F.Family.shape l.family).holds l.fn.row.0 l.block.0 (blocks_of l.sheet)))
