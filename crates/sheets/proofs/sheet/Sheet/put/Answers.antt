use Rattle.std.proofs.Common.{ℕ, ◌+◌, ◌-◌, ◌<◌, ◌≤◌, List, EachIndex, slice_index, length, drop, get_or-drop, length-drop, vec_items, subst, sym, ap, ◌∙◌, arith}
use Rattle.std.proofs.lemmas.List.{take_rest}
use Rattle.sheets.specs.Table.{pieces}
use Rattle.sheets.proofs.Pieces.{moved}
use Rattle.sheets.proofs.Known.{room_after, room_behind, table_after, whole_moved, blocks_after}
use Rattle.sheets.proofs.sheet.Sheet.put.Goals as goal

pub move_ends-requires : goal.move_ends-requires
move_ends-requires c =
    let s = c.args.self.now in
    let b = c.args.bytes.now in
    let place = c.args.place in
    let at = c.requires.stands in
    let room = room_after s place.index place.span.start place.span.end at b c.requires.fits in
    let P : List ℕ → Type 0 = λ t. EachIndex t (λ k. c.len.result ≤ slice_index t k) × EachIndex t (λ k. slice_index t k - c.len.result + length b ≤ 38912) in
    let behind = λ (k : ℕ) (h : k < length (drop place.index (vec_items s.ends))).
    room_behind s place.index place.span.start place.span.end at (place.index + k) (omega arith) (omega (arith, length-drop place.index (vec_items s.ends), s.ends.ok.0)) in
    let there = λ (k : ℕ). get_or-drop place.index (vec_items s.ends) k 0 in
    let both = subst P (sym (take_rest c.deref_mut.result.now place.index ∙ ap (drop place.index) c.deref_mut.ensures.value))
    (λ k h. omega (arith, there k, behind k h, at.forward), λ k h. omega (arith, there k, behind k h, room, at.forward)) in
    record { inside = both.0; fits = both.1 }

pub invariant_of-self-clause-whole : goal.invariant_of-self-clause-whole
invariant_of-self-clause-whole c =
    let s = c.args.self.now in
    let b = c.args.bytes.now in
    let place = c.args.place in
    let at = c.requires.stands in
    let table = table_after s place.index place.span.start place.span.end at c.deref_mut.result.now c.move_ends.new.ends c.len.result (length b) c.deref_mut.ensures.value c.len.ensures.value c.move_ends.ensures in
    rw (table, c.replace.ensures.len) (whole_moved s place.index place.span.start place.span.end at (length b))

pub returns : goal.returns
returns c =
    let s = c.args.self.now in
    let b = c.args.bytes.now in
    let place = c.args.place in
    let at = c.requires.stands in
    let table = table_after s place.index place.span.start place.span.end at c.deref_mut.result.now c.move_ends.new.ends c.len.result (length b) c.deref_mut.ensures.value c.len.ensures.value c.move_ends.ensures in
    ap (λ es. pieces 0 es (vec_items c.replace.new.all)) table
    ∙ ap (pieces 0 (moved (vec_items s.ends) place.index (place.span.end - place.span.start) (length b))) c.replace.ensures.items
    ∙ blocks_after s place.index place.span.start place.span.end at b
