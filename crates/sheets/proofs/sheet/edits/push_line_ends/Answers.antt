use Rattle.std.proofs.Common.{◌≡◌, ◌+◌, [], ◌∷◌, ◌++◌, length, drop, vec_items, vec_capacity, sym, ap, ◌∙◌, append_assoc, arith, length-append}
use Rattle.sheets.proofs.Lines.{marks, marks_yes, marks_no, marks_fit, all_made, line_ends_open, line_ends_closed}
use Rattle.sheets.proofs.sheet.edits.push_line_ends.Goals as goal
use Rattle.sheets.proofs.sheet.edits.push_line_ends.Goals.{then-byte-eq10, else-byte-eq10}

pub push_reserved-requires : goal.push_reserved-requires
push_reserved-requires c =
    let text = c.args.text.now in
    let next = ap length (marks_yes text c.loop-index.index c.loop-index-test.true c.if-byte-eq10.true) in
    let all = simp length-append at (ap length c.loop-index.invariant.0) in
    omega (arith, next, all, marks_fit text, c.loop-index.invariant.1, c.loop-index.ends.ok.0, c.args.ends.now.ok.0)

pub loop-index-preserved : goal.loop-index-preserved
loop-index-preserved c =
    let text = c.args.text.now in
    let i = c.loop-index.index in
    let rest = marks (i + 1) (drop (i + 1) text) in
    elim c.if-byte-eq10.branch [
      | then-byte-eq10 w ↦
          let next = marks_yes text i c.loop-index-test.true w.if-byte-eq10.true in
          let pushed : vec_items c.if-byte-eq10.ends ≡ vec_items c.loop-index.ends ++ (i + 1) ∷ [] = ap vec_items w.ends-is ∙ w.push_reserved.ensures.items in
          (ap (λ t. t ++ rest) pushed ∙ append_assoc (vec_items c.loop-index.ends) ((i + 1) ∷ []) rest ∙ ap (λ t. vec_items c.loop-index.ends ++ t) (sym next) ∙ c.loop-index.invariant.0, ap vec_capacity w.ends-is ∙ w.push_reserved.ensures.capacity ∙ c.loop-index.invariant.1)
      | else-byte-eq10 w ↦
          let next = marks_no text i c.loop-index-test.true w.if-byte-eq10.false in
          (ap (λ v. vec_items v ++ rest) w.ends-is ∙ ap (λ t. vec_items c.loop-index.ends ++ t) (sym next) ∙ c.loop-index.invariant.0, ap vec_capacity w.ends-is ∙ c.loop-index.invariant.1)
    ]

pub push_reserved-requires-then-ends_open : goal.push_reserved-requires-then-ends_open
push_reserved-requires-then-ends_open c =
    let text = c.args.text.now in
    let made = simp length-append at (ap length (all_made text (vec_items c.args.ends.now) (vec_items c.loop-index.ends) c.loop-index.index c.loop-index.invariant.0 c.loop-index-test.false)) in
    let more = simp length-append at (ap length (line_ends_open text (sym c.if-ends_open.true ∙ c.ends_open.ensures))) in
    omega (arith, made, more, c.loop-index.invariant.1, c.loop-index.ends.ok.0, c.args.ends.now.ok.0)

pub returns-then-ends_open-clause-items : goal.returns-then-ends_open-clause-items
returns-then-ends_open-clause-items c =
    let text = c.args.text.now in
    let old = vec_items c.args.ends.now in
    let made = all_made text old (vec_items c.loop-index.ends) c.loop-index.index c.loop-index.invariant.0 c.loop-index-test.false in
    c.push_reserved-then-ends_open.ensures.items ∙ ap (λ t. t ++ length text ∷ []) made
    ∙ append_assoc old (marks 0 text) (length text ∷ []) ∙ ap (λ t. old ++ t) (sym (line_ends_open text (sym c.if-ends_open.true ∙ c.ends_open.ensures)))

pub returns-else-ends_open-clause-items : goal.returns-else-ends_open-clause-items
returns-else-ends_open-clause-items c =
    let text = c.args.text.now in
    let old = vec_items c.args.ends.now in
    let made = all_made text old (vec_items c.loop-index.ends) c.loop-index.index c.loop-index.invariant.0 c.loop-index-test.false in
    made ∙ ap (λ t. old ++ t) (sym (line_ends_closed text (sym c.if-ends_open.false ∙ c.ends_open.ensures)))
