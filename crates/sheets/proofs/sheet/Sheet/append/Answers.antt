use Rattle.std.proofs.Common.{◌≡◌, ℕ, ◌+◌, [], ◌∷◌, ◌++◌, length, vec_items, vec_len, ap, ◌∙◌, arith}
use Rattle.sheets.specs.Table.{pieces}
use Rattle.sheets.proofs.Pieces.{rising, risen, rises_push, pieces_push}
use Rattle.sheets.proofs.Known.{risen_to_end}
use Rattle.sheets.proofs.sheet.Sheet.append.Goals as goal

pub invariant_of-self-clause-whole : goal.invariant_of-self-clause-whole
invariant_of-self-clause-whole c =
    let s = c.args.self.now in
    let last = c.len.result in
    let grown = rw c.unwrap.ensures at c.extend_from_slice.ensures.len in
    let risen = rises_push 0 (vec_items s.ends) (vec_len s.bytes) last (risen 0 (vec_items s.ends) (vec_len s.bytes) s.whole) (omega arith) in
    rw (c.push_reserved.ensures.items, ← c.len.ensures) (rising 0 (vec_items s.ends ++ last ∷ []) last risen)

pub returns : goal.returns
returns c =
    let s = c.args.self.now in
    let new = c.args.bytes.now in
    let grown = rw c.unwrap.ensures at c.extend_from_slice.ensures.len in
    let bytes = rw c.unwrap.ensures at c.extend_from_slice.ensures.items in
    let last : c.len.result ≡ 0 + length (vec_items s.bytes) + length new = omega (arith, s.bytes.ok.0) in
    ap (λ es. pieces 0 es (vec_items c.extend_from_slice.new.self)) c.push_reserved.ensures.items
    ∙ ap (pieces 0 (vec_items s.ends ++ c.len.result ∷ [])) bytes
    ∙ ap (λ (n : ℕ). pieces 0 (vec_items s.ends ++ n ∷ []) (vec_items s.bytes ++ new)) last
    ∙ pieces_push 0 (vec_items s.ends) (vec_items s.bytes) new (risen_to_end s)
