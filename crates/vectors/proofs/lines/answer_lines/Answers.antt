use Rattle.std.proofs.Common.{◌≡◌, rules, List, [], ◌∷◌, ◌++◌, string_bytes, sym, ap, ◌∙◌, append_assoc}
use Rattle.std.specs.List.{flat_map}
use Rattle.std.proofs.lemmas.List.{append-nil}
use Rattle.scripts.specs.Words.{Bytes}
use Rattle.scripts.specs.Lines.{parts_behind}
use Rattle.scripts.proofs.LineLemmas.{yields_parts, yields_more, yields_end}
use Rattle.vectors.specs.Prints.{line_text, input_text}
use Rattle.vectors.proofs.lines.answer_lines.Goals as goal

pub loop-line-init : goal.loop-line-init
unfolding input_text
loop-line-init c =
    let input = c.args.input.now in (
      parts_behind 10 [] input,
      yields_parts 10 input _ (search rules) (search rules) (search rules) (λ x b q k. search rules),
      ap (λ t. t ++ input_text input) c.new-out.ensures.bytes,
    )

line_more : (lines rest : List Bytes) (line old new all : Bytes) → lines ≡ line ∷ rest → new ≡ old ++ line_text line → old ++ flat_map line_text lines ≡ all → new ++ flat_map line_text rest ≡ all
line_more lines rest line old new all l n e = rw (n, append_assoc) (ap (λ ls. old ++ flat_map line_text ls) (sym l) ∙ e)

pub loop-line-preserved : goal.loop-line-preserved
loop-line-preserved c =
    let next = yields_more c.loop-line.invariant.0 c.in-Some.line c.loop-line.invariant.1 c.in-Some.ensures.steps in
    (next.0, next.2, line_more _ _ _ _ _ _ next.1 c.in_ok-answer_line.ensures c.loop-line.invariant.2)

pub returns : goal.returns
returns c =
    let none = yields_end c.loop-line.invariant.0 c.loop-line.invariant.1 c.in-None.ensures.steps in
    sym (append-nil (string_bytes c.loop-line.out)) ∙ ap (λ ls. string_bytes c.loop-line.out ++ flat_map line_text ls) (sym none) ∙ c.loop-line.invariant.2
