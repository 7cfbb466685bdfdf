use Rattle.std.proofs.Common.{◌≡◌, ◌-◌, ◌≤◌, ◌++◌, length, take, drop, vec_items, sym, refl, ap, ◌∙◌, append_assoc, arith, length-append, length-drop}
use Rattle.std.proofs.lemmas.List.{length-take-le, take_rest}
use Rattle.sheets.proofs.Turned.{part_put, turned_left, turned_right, in_three, first_two}
use Rattle.sheets.proofs.sheet.edits.replace.Goals as goal

pub returns-clause-items : goal.returns-clause-items
returns-clause-items c =
    let xs = vec_items c.args.all.now in
    let start = c.args.span.start in
    let end = c.args.span.end in
    let front = take start xs in
    let old = take (end - start) (drop start xs) in
    let rest = drop end xs in
    let low : start ≤ end = c.requires.forward in
    let high : end ≤ length xs = omega (arith, c.args.all.now.ok.0, c.requires.inside) in
    let short : length front ≡ start = length-take-le start xs (omega arith) in
    let gap : c.len-3.result ≡ length old = c.len-3.ensures.value ∙ sym (length-take-le (end - start) (drop start xs) (omega (arith, length-drop start xs))) in
    let turned
    = part_put c.args.all.now c.deref_mut.result.now c.rotate_left.new.self start c.deref_mut.ensures.len (omega arith) (c.rotate_left.ensures.len ∙ simp (take_rest, length-drop))
    ∙ turned_left front old rest c.deref_mut.result.now c.rotate_left.new.self start short (c.deref_mut.ensures.value ∙ in_three xs start end low high) c.len-3.result gap c.rotate_left.ensures.after in
    let kept : vec_items c.truncate.new.self ≡ front ++ rest = c.truncate.ensures.items ∙ ap (take _) turned ∙ first_two xs start end low high _ (omega (arith, c.args.all.now.ok.0)) in
    let added = rw c.unwrap.ensures at c.extend_from_slice.ensures.items ∙ ap (λ t. t ++ c.args.new.now) kept ∙ append_assoc front rest c.args.new.now in
    let all = c.deref_mut-2.ensures.value ∙ added in
    part_put c.extend_from_slice.new.self c.deref_mut-2.result.now c.rotate_right.new.self start c.deref_mut-2.ensures.len (omega (arith, ap length all, length-append front (rest ++ c.args.new.now))) (c.rotate_right.ensures.len ∙ simp (take_rest, length-drop))
    ∙ turned_right front rest c.args.new.now c.deref_mut-2.result.now c.rotate_right.new.self start short all _ refl c.rotate_right.ensures.after
