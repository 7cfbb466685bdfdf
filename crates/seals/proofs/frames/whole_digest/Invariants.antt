use Rattle.std.proofs.Common.{◌≡◌, ◌≤◌, ◌++◌, length, ◌+◌, true}
use Rattle.std.specs.Iterator.Adapters.{enumerate_source, enumerate_count}
use Rattle.digests.specs.Strings.{Bytes}
use Rattle.sheets.specs.Blocks.{blocks_of}
use Rattle.sheets.specs.Calls.{total_bytes}
use Rattle.seals.specs.Images.{framed_blocks, whole_image}
use Rattle.seals.proofs.frames.whole_digest.Given as goal

-- with the frames of the blocks that are left it is the whole image
abbrev pub invariant-loop-index : goal.invariant-loop-index
invariant-loop-index g l =
    (goal.iterator-loop-index g).can_next l.index-iterator
    × (goal.iterator-loop-index g).is_finite l.index-iterator
    × (enumerate_count l.index-iterator + length (enumerate_source l.index-iterator) ≤ 512)
    × (total_bytes (enumerate_source l.index-iterator) ≤ 38912)
    × ((done : Bytes) × ((g.D.Digest.took l.digest done)
    × (done ++ framed_blocks (λ _. true) (enumerate_count l.index-iterator + 1) (enumerate_source l.index-iterator) ≡ whole_image (blocks_of l.sheet))))
