use Rattle.std.proofs.Common.{◌≡◌, ◌+◌, ◌++◌, string_bytes, sym, ap, ◌∙◌, append_assoc}
use Rattle.std.proofs.lemmas.List.{append-nil}
use Rattle.std.specs.Iterator.Adapters.{enumerate_source, enumerate_count}
use Rattle.findings.specs.Lines.{block_line, block_lines}
use Rattle.findings.specs.Sealed.{unchecked, sealed_text}
use Rattle.findings.proofs.file.sealed_text.Goals as goal

pub loop-index-preserved : goal.loop-index-preserved
unfolding block_lines
loop-index-preserved c =
    let steps = c.in-Some.ensures.steps in
    let on = c.in-Some.ensures.goes.on tt in
    let n = enumerate_count c.loop-index.index-iterator + 1 in
    let left = enumerate_source c.next.new.self in
    let old = string_bytes c.loop-index.text in
    let line = block_line n c.in-Some.block.now in
    let pushed : string_bytes c.push_block.new.text ≡ old ++ line = c.in_ok-push_block.ensures ∙ ap (λ k. old ++ block_line (k + 1) c.in-Some.block.now) steps.1 in (
      on.0,
      on.1,
      ap (λ k. string_bytes c.push_block.new.text ++ block_lines (k + 1) left) steps.2
          ∙ ap (λ t. t ++ block_lines (n + 1) left) pushed
          ∙ append_assoc old line (block_lines (n + 1) left) ∙ ap (λ t. old ++ t) (sym (ap (block_lines n) steps.0)) ∙ c.loop-index.invariant.2,
    )

pub returns : goal.returns
unfolding block_lines sealed_text
returns c =
    let none = ap (block_lines (enumerate_count c.loop-index.index-iterator + 1)) c.in-None.ensures.steps.0.0 in
    let all = sym (append-nil (string_bytes c.loop-index.text)) ∙ ap (λ t. string_bytes c.loop-index.text ++ t) (sym none) ∙ c.loop-index.invariant.2 in
    c.in_ok-push_str.ensures.bytes ∙ ap (λ t. t ++ unchecked) all
