use Rattle.std.proofs.Common.{◌≡◌, ◌+◌, ◌++◌, string_bytes}
use Rattle.std.specs.Iterator.Adapters.{enumerate_source, enumerate_count}
use Rattle.sheets.specs.Blocks.{blocks_of}
use Rattle.findings.specs.Lines.{block_lines}
use Rattle.findings.specs.Sealed.{front_text}
use Rattle.findings.proofs.file.sealed_text.Given as goal

-- with the lines that are left it has them all
abbrev pub invariant-loop-index : goal.invariant-loop-index
invariant-loop-index l =
    goal.iterator-loop-index.can_next l.index-iterator
    × goal.iterator-loop-index.is_finite l.index-iterator
    × (string_bytes l.text ++ block_lines (enumerate_count l.index-iterator + 1) (enumerate_source l.index-iterator) ≡ front_text l.fn.head (blocks_of l.sheet) ++ block_lines 1 (blocks_of l.sheet))
