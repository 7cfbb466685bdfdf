use Rattle.std.proofs.Common.{◌≡◌, ◌++◌, length}
use Rattle.digests.specs.Strings.{Bytes}
use Rattle.sheets.specs.Blocks.{blocks_of}
use Rattle.seals.specs.Images.{row_image}
use Rattle.seals.specs.View.{viewed}
use Rattle.seals.proofs.Framed.{There, frames}
use Rattle.seals.proofs.frames.row_digest.Given as goal

-- with the frames of the blocks that are left it is the row's image
abbrev pub invariant-loop-number : goal.invariant-loop-number
invariant-loop-number g l =
    (goal.iterator-loop-number g).can_next l.number-iterator
    × (goal.iterator-loop-number g).is_finite l.number-iterator
    × There (length (blocks_of l.blocks.sheet.now)) l.number-iterator
    × ((done : Bytes) × ((g.D.Digest.took l.digest done) × (done ++ frames (viewed l.blocks) l.number-iterator ≡ row_image (g.F.Family.shape l.family).holds l.fn.row.0 (viewed l.blocks))))
