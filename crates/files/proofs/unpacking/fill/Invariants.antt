use Rattle.sheets.specs.Blocks.{blocks_of}
use Rattle.files.specs.File.{blocks_in}
use Rattle.files.proofs.Walked.{FilledSoFar}
use Rattle.files.proofs.unpacking.fill.Given as goal

abbrev pub invariant-loop-index : goal.invariant-loop-index
invariant-loop-index l = FilledSoFar (blocks_in l.count l.frames) l.count l.index (blocks_of l.sheet) l.left
