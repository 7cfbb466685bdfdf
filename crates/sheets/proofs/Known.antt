-- The count and the size of a sheet's blocks are the lengths of its two lists; where a block lies; what a rewrite of the two lists leaves.
use Rattle.std.proofs.Common.{◌≡◌, ℕ, ◌+◌, ◌-◌, ◌<◌, ◌≤◌, true, is_ok, map, List, [], ◌∷◌, ◌++◌, length, get_or, take, drop, set, vec_items, vec_len, sym, ap, ◌∙◌, zero-add, arith, length-drop}
use borrow.Rule.Slice.PartMut.{put_mid}
use Rattle.std.specs.Vec.{with_items}
use native.Mathlib.Nat.{sub-zero}
use Rattle.std.proofs.lemmas.List.{length-take-le, nil_from_length}
use Rattle.sheets.specs.declared.sheet.Sheet.{Sheet}
use Rattle.sheets.specs.Table.{pieces, rises}
use Rattle.sheets.specs.Blocks.{blocks_of, Stands}
use Rattle.sheets.specs.Calls.{total_bytes, with_block, rewrite_answer}
use Rattle.sheets.proofs.Tells.{block_ok, block_allows, with_block_at, rewrite_allows}
use Rattle.sheets.proofs.Turned.{part_moved}
use Rattle.sheets.proofs.Pieces.{moved, Rises, risen, rising, bounds, later, length_pieces, total_pieces, piece_at, total_set, pieces_set, rises_moved}

module _ (s : Sheet) where
  pub risen_to_end : Rises 0 (vec_items s.ends) (0 + length (vec_items s.bytes))
  risen_to_end = rw (zero-add, ← s.bytes.ok.0) (risen 0 (vec_items s.ends) (vec_len s.bytes) s.whole)

  pub count_is : length (blocks_of s) ≡ vec_len s.ends
  count_is = length_pieces 0 (vec_items s.ends) (vec_items s.bytes) ∙ sym s.ends.ok.0

  pub size_is : total_bytes (blocks_of s) ≡ vec_len s.bytes
  size_is = total_pieces 0 (vec_items s.ends) (vec_items s.bytes) risen_to_end ∙ sym s.bytes.ok.0

  -- a sheet with no block has no byte
  pub none_held : length (blocks_of s) ≡ 0 → (vec_items s.ends ≡ []) × (vec_items s.bytes ≡ []) × (vec_len s.bytes ≡ 0)
  none_held h =
      let ends = nil_from_length (vec_items s.ends) (sym s.ends.ok.0 ∙ sym count_is ∙ h) in
      let reached : Rises 0 [] (0 + length (vec_items s.bytes)) = rw ends at risen_to_end in
      (ends, nil_from_length (vec_items s.bytes) (omega arith), omega (arith, s.bytes.ok.0))

  -- the block at an index lies within the bytes, from where the one before it ends to where it ends
  pub lies : (i : ℕ) → i < vec_len s.ends → (get_or (0 ∷ vec_items s.ends) i 0 ≤ get_or (vec_items s.ends) i 0) × (get_or (vec_items s.ends) i 0 ≤ vec_len s.bytes)
  lies i h =
      let b = bounds 0 (vec_items s.ends) (vec_len s.bytes) i (risen 0 (vec_items s.ends) (vec_len s.bytes) s.whole) (omega (arith, s.ends.ok.0)) in
      (b.1, b.2)

  pub block_is : (i from to : ℕ) → i < vec_len s.ends → from ≡ get_or (0 ∷ vec_items s.ends) i 0 → to ≡ get_or (vec_items s.ends) i 0
      → get_or (blocks_of s) i [] ≡ take (to - from) (drop from (vec_items s.bytes))
  block_is i from to h e f =
      piece_at 0 (vec_items s.ends) (vec_items s.bytes) i risen_to_end (omega (arith, s.ends.ok.0)) ∙ simp (sub-zero, ← e, ← f)

  -- what is read of the table for a block that is there
  pub stands : (i from : ℕ) (ends : List ℕ) → ends ≡ vec_items s.ends → i < length ends → from ≡ get_or (0 ∷ ends) i 0 → Stands s (i + 1) from (get_or ends i 0)
  stands i from ends e h at =
      let here : (i + 1) - 1 ≡ i = omega arith in
      let short : i < vec_len s.ends = omega (arith, ap length e, s.ends.ok.0) in
      let at' : from ≡ get_or (0 ∷ vec_items s.ends) i 0 = at ∙ ap (λ es. get_or (0 ∷ es) i 0) e in
      let until : get_or ends i 0 ≡ get_or (vec_items s.ends) i 0 = ap (λ es. get_or es i 0) e in
      let l = lies i short in
      record {
        forward = omega (arith, at', until, l);
        inside = omega (arith, until, l, size_is);
        from_is = at' ∙ ap (λ k. get_or (0 ∷ vec_items s.ends) k 0) (sym here);
        to_is = until ∙ ap (λ k. get_or (vec_items s.ends) k 0) (sym here);
        block_is = block_ok (blocks_of s) i _ (omega (arith, short, count_is)) (block_is i from (get_or ends i 0) short at' until);
      }

  -- a block that stands in the bytes, and other bytes in its stead
  module _ (i from to : ℕ) (h : Stands s (i + 1) from to) where
    here : (i + 1) - 1 ≡ i
    here = omega arith

    from_is : from ≡ get_or (0 ∷ vec_items s.ends) i 0
    from_is = h.from_is ∙ ap (λ k. get_or (0 ∷ vec_items s.ends) k 0) here

    to_is : to ≡ get_or (vec_items s.ends) i 0
    to_is = h.to_is ∙ ap (λ k. get_or (vec_items s.ends) k 0) here

    pub there : i < length (blocks_of s)
    there = block_allows (blocks_of s) i _ h.block_is

    pub short : i < vec_len s.ends
    short = omega (arith, there, count_is)

    short' : i < length (vec_items s.ends)
    short' = omega (arith, short, s.ends.ok.0)

    block_size : length (get_or (blocks_of s) i []) ≡ to - from
    block_size =
        ap length (block_is i from to short from_is to_is)
        ∙ length-take-le (to - from) (drop from (vec_items s.bytes)) (simp length-drop (omega (arith, h.forward, h.inside, size_is, s.bytes.ok.0)))

    pub total_after : (b : List ℕ) → total_bytes (with_block (blocks_of s) (i + 1) b) ≡ total_bytes (blocks_of s) - (to - from) + length b
    total_after b =
        let sum = total_set (blocks_of s) i b there in
        ap total_bytes (with_block_at (blocks_of s) i b) ∙ omega (arith, block_size, h.forward, h.inside)

    -- what is left of the room once the block is b
    pub room_after : (b : List ℕ) → is_ok (rewrite_answer (blocks_of s) (i + 1) b) ≡ true → vec_len s.bytes - (to - from) + length b ≤ 38912
    room_after b good = omega (arith, total_after b, rewrite_allows (blocks_of s) i b good, size_is)

    -- the ends from the block's on lie between its end and the last
    pub room_behind : (k : ℕ) → i ≤ k → k < vec_len s.ends → (to ≤ get_or (vec_items s.ends) k 0) × (get_or (vec_items s.ends) k 0 ≤ vec_len s.bytes)
    room_behind k l m =
        let b = later 0 (vec_items s.ends) (vec_len s.bytes) i k (risen 0 (vec_items s.ends) (vec_len s.bytes) s.whole) l (omega (arith, s.ends.ok.0)) in
        (omega (arith, b.0, to_is), b.1)

    -- the table, where its part from the block's end on has moved
    pub table_after : (xs part : List ℕ) (back on : ℕ) → xs ≡ vec_items s.ends → back ≡ to - from → part ≡ map (λ end. end - back + on) (take (length xs - i) (drop i xs))
        → vec_items (with_items s.ends (put_mid i (length xs - i) xs part)) ≡ moved (vec_items s.ends) i (to - from) on
    table_after xs part back on same gap e =
        part_moved s.ends xs part i back on same (omega (arith, ap length same, short')) e ∙ ap (λ n. moved (vec_items s.ends) i n on) gap

    pub whole_moved : (on : ℕ) → rises 0 (moved (vec_items s.ends) i (to - from) on) (vec_len s.bytes - (to - from) + on) ≡ true
    whole_moved on =
        rising 0 (moved (vec_items s.ends) i (to - from) on) (vec_len s.bytes - (to - from) + on)
        (rw (from_is, to_is) (rises_moved 0 (vec_items s.ends) (vec_len s.bytes) i on (risen 0 (vec_items s.ends) (vec_len s.bytes) s.whole) short'))

    pub blocks_after : (b : List ℕ)
        → pieces 0 (moved (vec_items s.ends) i (to - from) (length b)) (take from (vec_items s.bytes) ++ (b ++ drop to (vec_items s.bytes))) ≡ set (blocks_of s) i b
    blocks_after b = rw (from_is, to_is) (simp sub-zero at (pieces_set b 0 (vec_items s.ends) (vec_items s.bytes) i risen_to_end short'))
