use Rattle.std.proofs.Common.{◌≡◌, ◌+◌, ◌++◌, string_bytes, sym, ap, ◌∙◌, append_assoc}
use Rattle.std.proofs.lemmas.List.{append-nil}
use Rattle.std.specs.Iterator.Adapters.{enumerate_source, enumerate_count}
use Rattle.reports.specs.Reports.{block_line, block_lines}
use Rattle.reports.proofs.sheet_report.Goals as goal

pub loop-index-preserved : goal.loop-index-preserved
unfolding block_lines
loop-index-preserved c =
    let steps = c.in-Some.ensures.steps in
    let on = c.in-Some.ensures.goes.on tt in
    let n = enumerate_count c.loop-index.index-iterator + 1 in
    let left = enumerate_source c.next.new.self in
    let old = string_bytes c.loop-index.report in
    let line = block_line n c.in-Some.block.now in
    let pushed : string_bytes c.writeln.new.self ≡ old ++ line = c.in_ok-writeln.ensures.bytes ∙ ap (λ k. old ++ block_line (k + 1) c.in-Some.block.now) steps.1 in (
      on.0,
      on.1,
      ap (λ k. string_bytes c.writeln.new.self ++ block_lines (k + 1) left) steps.2
          ∙ ap (λ t. t ++ block_lines (n + 1) left) pushed
          ∙ append_assoc old line (block_lines (n + 1) left) ∙ ap (λ t. old ++ t) (sym (ap (block_lines n) steps.0)) ∙ c.loop-index.invariant.2,
    )

pub returns : goal.returns
unfolding block_lines
returns c =
    let none = ap (block_lines (enumerate_count c.loop-index.index-iterator + 1)) c.in-None.ensures.steps.0.0 in
    sym (append-nil (string_bytes c.loop-index.report)) ∙ ap (λ t. string_bytes c.loop-index.report ++ t) (sym none) ∙ c.loop-index.invariant.2
