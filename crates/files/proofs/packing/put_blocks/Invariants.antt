use Rattle.std.proofs.Common.{◌+◌, ◌≤◌, length}
use Rattle.std.specs.Iterator.Adapters.{enumerate_source, enumerate_count}
use Rattle.sheets.specs.Blocks.{blocks_of}
use Rattle.sheets.specs.Calls.{total_bytes}
use Rattle.files.specs.File.{frames}
use Rattle.files.proofs.Put.{PutSoFar}
use Rattle.files.proofs.packing.put_blocks.Given as goal

abbrev pub invariant-loop-index : goal.invariant-loop-index
invariant-loop-index l =
    goal.iterator-loop-index.can_next l.index-iterator
    × goal.iterator-loop-index.is_finite l.index-iterator
    × (enumerate_count l.index-iterator + length (enumerate_source l.index-iterator) ≤ 512)
    × (total_bytes (enumerate_source l.index-iterator) ≤ 38912)
    × PutSoFar (frames (blocks_of l.sheet)) (enumerate_count l.index-iterator) (enumerate_source l.index-iterator) l.fn.out l.out l.place
