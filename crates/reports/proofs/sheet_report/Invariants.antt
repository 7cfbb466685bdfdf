use Rattle.std.proofs.Common.{◌≡◌, ◌+◌, ◌++◌, string_bytes}
use Rattle.std.specs.Iterator.Adapters.{enumerate_source, enumerate_count}
use Rattle.sheets.specs.Blocks.{blocks_of}
use Rattle.reports.specs.Reports.{block_lines, sheet_report}
use Rattle.reports.proofs.sheet_report.Given as goal

-- with the lines that are left it makes the whole report
abbrev pub invariant-loop-index : goal.invariant-loop-index
invariant-loop-index l =
    goal.iterator-loop-index.can_next l.index-iterator
    × goal.iterator-loop-index.is_finite l.index-iterator
    × (string_bytes l.report ++ block_lines (enumerate_count l.index-iterator + 1) (enumerate_source l.index-iterator) ≡ sheet_report (blocks_of l.sheet))
