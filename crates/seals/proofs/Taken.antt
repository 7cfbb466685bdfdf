-- An excerpt taken apart frame by frame.
use Rattle.std.specs.Prelude.{◌≡◌, ℕ, zero, suc, ◌+◌, ◌-◌, ◌<◌, ◌≤◌, Bool, true, false, cond, not, ◌&&◌, List, [], ◌∷◌, ◌++◌, length, take, drop, Some, None, Option, ◌==◌, ◌≢◌, nat_le, slice_set, refl}
use Rattle.std.specs.Option.{is_some, option_and_then}
use Rattle.std.specs.Bool.{then_some}
use Rattle.std.proofs.Common.{sym, ap, ◌∙◌, arith, append_assoc, length-drop}
use Rattle.std.proofs.Math.Seq.{take-append-add, drop-append-add}
use Rattle.std.proofs.lemmas.Bool.{true≢false, and_parts, eqb-true, eq-eqb, eqb-false, ne_eqb}
use Rattle.std.proofs.lemmas.Option.{option_and_then_some}
use Rattle.digests.specs.Strings.{Bytes, same}
use Rattle.families.specs.Numbers.{numbers, keep_where}
use Rattle.families.specs.Shape.{Shape, Lawful, held_after, row_list}
use Rattle.sheets.specs.Table.{max_bytes}
use Rattle.seals.specs.Images.{two_bytes, framed, framed_blocks, row_image, row_rest}
use Rattle.seals.specs.Part.{word}
use Rattle.seals.specs.Calls.{unframed, all_short, rest_blocks, is_excerpt}
use Rattle.seals.specs.Excerpts.{behind_frame, image_around, OwnPlace}
use Rattle.seals.proofs.Answers.{same_true}
use Rattle.seals.proofs.FirstFrame.{Small, Begun, has_frame, first_block, behind, small_behind, begun, framed_test, begins, some_behind}

-- The place of block j's own frame among those of the blocks ms, of which e has the others': `place` if it has been passed.
-- None if e is not exactly those frames. e ends a string of `total` bytes.
unfoldable pub place_among : ℕ → ℕ → List ℕ → ℕ → Bytes → Option ℕ
place_among total j [] place e = then_some (length e == 0) place
place_among total j (m ∷ ms) place e =
    cond (m == j) (place_among total j ms (total - length e) e) (option_and_then (place_among total j ms place) (behind_frame m e))

-- a turn of the loop: the block's own frame, another's, a frame that is missing, and the end
module _ (total j : ℕ) (whole : Option ℕ) (ns : List ℕ) (place : ℕ) (e : Bytes) (before : whole ≡ place_among total j ns place e) where
  pub turn_own : (m : ℕ) (ms : List ℕ) → ns ≡ m ∷ ms → m ≡ j → whole ≡ place_among total j ms (total - length e) e
  unfolding place_among
  turn_own m ms next own = before ∙ rw (next, eq-eqb m j own) refl

  other_frame : (m : ℕ) (ms : List ℕ) → ns ≡ m ∷ ms → m ≢ j → whole ≡ option_and_then (place_among total j ms place) (behind_frame m e)
  unfolding place_among
  other_frame m ms next other = before ∙ rw (next, ne_eqb m j other) refl

  pub turn_other : (m : ℕ) (ms : List ℕ) (rest : Bytes) → ns ≡ m ∷ ms → m ≢ j → behind_frame m e ≡ Some rest → whole ≡ place_among total j ms place rest
  turn_other m ms rest next other front = other_frame m ms next other ∙ ap (option_and_then (place_among total j ms place)) front

  pub turn_fails : (m : ℕ) (ms : List ℕ) → ns ≡ m ∷ ms → m ≢ j → behind_frame m e ≡ None → whole ≡ None
  turn_fails m ms next other front = other_frame m ms next other ∙ ap (option_and_then (place_among total j ms place)) front

  pub turn_end : ns ≡ [] → whole ≡ then_some (length e == 0) place
  unfolding place_among
  turn_end none = before ∙ rw none refl

-- some bytes in the rest of a string, behind its first part
inserted : (first rest between e : Bytes) (s p : ℕ) → first ++ rest ≡ e → p ≡ length first + s
    → first ++ (take s rest ++ (between ++ drop s rest)) ≡ take p e ++ (between ++ drop p e)
inserted first rest between e s p is at =
    sym (append_assoc first (take s rest) (between ++ drop s rest))
    ∙ ap (λ k. k ++ (between ++ drop s rest)) (sym (take-append-add first rest s))
    ∙ ap (λ k. take (length first + s) (first ++ rest) ++ (between ++ k)) (sym (drop-append-add first rest s))
    ∙ ap (λ k. take k (first ++ rest) ++ (between ++ drop k (first ++ rest))) (sym at)
    ∙ ap (λ k. take p k ++ (between ++ drop p k)) is

-- one block is read, or passed over
unframed_kept : (keep : ℕ → Bool) (m count : ℕ) (e : Bytes) → keep m ≡ true → unframed keep m (suc count) e ≡ first_block e ∷ unframed keep (suc m) count (behind e)
unfolding unframed
unframed_kept keep m count e k =
    ap (λ (b : Bool). elim b as (λ _. List Bytes) [ true ↦ first_block e ∷ unframed keep (suc m) count (behind e) | false ↦ [] ∷ unframed keep (suc m) count e ]) k

unframed_passed : (keep : ℕ → Bool) (m count : ℕ) (e : Bytes) → keep m ≡ false → unframed keep m (suc count) e ≡ [] ∷ unframed keep (suc m) count e
unfolding unframed
unframed_passed keep m count e k =
    ap (λ (b : Bool). elim b as (λ _. List Bytes) [ true ↦ first_block e ∷ unframed keep (suc m) count (behind e) | false ↦ [] ∷ unframed keep (suc m) count e ]) k

framed_kept : (keep : ℕ → Bool) (m : ℕ) (b : Bytes) (bs : List Bytes) → keep m ≡ true → framed_blocks keep m (b ∷ bs) ≡ framed m b ++ framed_blocks keep (suc m) bs
unfolding framed_blocks
framed_kept keep m b bs k = ap (λ h. cond h (framed m b) [] ++ framed_blocks keep (suc m) bs) k

framed_passed : (keep : ℕ → Bool) (m : ℕ) (b : Bytes) (bs : List Bytes) → keep m ≡ false → framed_blocks keep m (b ∷ bs) ≡ framed_blocks keep (suc m) bs
unfolding framed_blocks
framed_passed keep m b bs k = ap (λ h. cond h (framed m b) [] ++ framed_blocks keep (suc m) bs) k

module _ (holds : ℕ → Bool) (j : ℕ) where
  -- the held blocks but j
  abbrev beside : ℕ → Bool
  beside m = holds m && not (m == j)

  -- whether e is exactly their frames, each short enough
  abbrev exactly : ℕ → ℕ → Bytes → Bool
  exactly m count e = same (framed_blocks beside m (unframed beside m count e)) e && all_short (unframed beside m count e)

  exactly_kept : (m count : ℕ) (e : Bytes) → beside m ≡ true
      → exactly m (suc count) e
      ≡ (same (framed m (first_block e) ++ framed_blocks beside (suc m) (unframed beside (suc m) count (behind e))) e
      && (nat_le (length (first_block e)) max_bytes && all_short (unframed beside (suc m) count (behind e))))
  unfolding all_short
  exactly_kept m count e k = rw (unframed_kept beside m count e k, framed_kept beside m (first_block e) _ k) refl

  exactly_passed : (m count : ℕ) (e : Bytes) → beside m ≡ false → exactly m (suc count) e ≡ exactly (suc m) count e
  unfolding all_short
  exactly_passed m count e k = rw (unframed_passed beside m count e k, framed_passed beside m [] _ k) refl

  -- the place among those of the blocks m, m + 1, .. that are held
  abbrev place_from : ℕ → ℕ → ℕ → ℕ → Bytes → Option ℕ
  place_from total m count place e = place_among total j (keep_where holds (numbers m count)) place e

  module _ (total m count place : ℕ) (e : Bytes) where
    from_own : holds m ≡ true → (m == j) ≡ true → place_from total m (suc count) place e ≡ place_from total (suc m) count (total - length e) e
    unfolding place_among keep_where numbers
    from_own h t = rw (h, t) refl

    from_other : holds m ≡ true → (m == j) ≡ false → place_from total m (suc count) place e ≡ option_and_then (place_from total (suc m) count place) (behind_frame m e)
    unfolding place_among keep_where numbers
    from_other h t = rw (h, t) refl

    from_passed : holds m ≡ false → place_from total m (suc count) place e ≡ place_from total (suc m) count place e
    unfolding place_among keep_where numbers
    from_passed h = rw h refl

  -- it is found exactly where the string is exact
  found_exact : (m count total place : ℕ) (e : Bytes) → m + count ≤ 65536 → Small e → is_some (place_from total m count place e) ≡ exactly m count e
  unfolding place_among keep_where numbers unframed framed_blocks all_short
  found_exact m zero total place [] low small = refl
  found_exact m zero total place (x ∷ e) low small =
      let some : suc (length e) ≢ 0 = omega arith in
      rw ne_eqb refl
  found_exact m (suc count) total place e low small =
      go (holds m) (m == j) refl refl (λ place e. found_exact (suc m) count total place e (omega arith))
    where
      go : (h t : Bool) → holds m ≡ h → (m == j) ≡ t → ((place : ℕ) (e : Bytes) → Small e → is_some (place_from total (suc m) count place e) ≡ exactly (suc m) count e)
          → is_some (place_from total m (suc count) place e) ≡ exactly m (suc count) e
      go true true h t above =
          ap is_some (from_own total m count place e h t) ∙ above (total - length e) e small ∙ sym (exactly_passed m count e (rw (h, t) refl))
      go true false h t above =
          let bs = unframed beside (suc m) count (behind e) in
          ap is_some (from_other total m count place e h t) ∙ some_behind m e (place_from total (suc m) count place)
          ∙ ap (λ k. has_frame m e && k) (above place (behind e) (small_behind e small))
          ∙ sym (framed_test m (framed_blocks beside (suc m) bs) e (all_short bs) (omega arith) small) ∙ sym (exactly_kept m count e (rw (h, t) refl))
      go false t h s above =
          ap is_some (from_passed total m count place e h) ∙ above place e small ∙ sym (exactly_passed m count e (rw h refl))

  -- above block j all that is held is beside it
  all_beside : (m : ℕ) (bs : List Bytes) → j < m → framed_blocks holds m bs ≡ framed_blocks beside m bs
  unfolding framed_blocks
  all_beside m [] above = refl
  all_beside m (b ∷ bs) above =
      let other : m ≢ j = omega arith in
      go (holds m) refl (ne_eqb m j other) (all_beside (suc m) bs (omega arith))
    where
      go : (h : Bool) → holds m ≡ h → (m == j) ≡ false → framed_blocks holds (suc m) bs ≡ framed_blocks beside (suc m) bs
          → framed_blocks holds m (b ∷ bs) ≡ framed_blocks beside m (b ∷ bs)
      go true h t rest = rw (h, t, rest) refl
      go false h t rest = rw (h, rest) refl

  -- and the place is passed
  passed : (m count total place p : ℕ) (e : Bytes) → j < m → place_from total m count place e ≡ Some p → place ≡ p
  unfolding place_among keep_where numbers
  passed m zero total place p e above is = go (length e == 0) is
    where
      go : (b : Bool) → then_some b place ≡ Some p → place ≡ p
      go true h = cc
      go false h = cc
  passed m (suc count) total place p e above is =
      let other : m ≢ j = omega arith in
      go (holds m) refl (ne_eqb m j other) (λ e. passed (suc m) count total place p e (omega arith))
    where
      go : (h : Bool) → holds m ≡ h → (m == j) ≡ false → ((e : Bytes) → place_from total (suc m) count place e ≡ Some p → place ≡ p) → place ≡ p
      go true h t rest =
          option_and_then_some (place_from total (suc m) count place) (behind_frame m e) p (sym (from_other total m count place e h t) ∙ is) (λ left _ found. rest left found)
      go false h t rest = rest e (sym (from_passed total m count place e h) ∙ is)

  -- what the blocks from m on become with bytes v for block j
  abbrev with_own : ℕ → ℕ → Bytes → Bytes → Bytes
  with_own m count e v = framed_blocks holds m (slice_set (unframed beside m count e) (j - m) v)

  own_first : (m count : ℕ) (e v : Bytes) → m ≡ j → holds m ≡ true → exactly (suc m) count e ≡ true → with_own m (suc count) e v ≡ framed j v ++ e
  own_first m count e v own h exact =
      let bs = unframed beside (suc m) count e in
      let back : framed_blocks holds (suc m) bs ≡ e
      = all_beside (suc m) bs (omega arith) ∙ same_true _ _ (and_parts (same (framed_blocks beside (suc m) bs) e) (all_short bs) exact).0 in
      let here : j - m ≡ 0 = omega arith in
      let none : beside m ≡ false = rw (h, eq-eqb m j own) refl in
      ap (λ k. framed_blocks holds m (slice_set k (j - m) v)) (unframed_passed beside m count e none)
      ∙ ap (λ k. framed_blocks holds m (slice_set ([] ∷ bs) k v)) here ∙ framed_kept holds m v bs h
      ∙ ap (λ k. framed m v ++ k) back ∙ ap (λ k. framed k v ++ e) own

  own_later : (m count : ℕ) (e v : Bytes) → m < j → holds m ≡ false → with_own m (suc count) e v ≡ with_own (suc m) count e v
  own_later m count e v above h =
      let bs = unframed beside (suc m) count e in
      let next : j - m ≡ suc (j - suc m) = omega arith in
      let none : beside m ≡ false = rw h refl in
      ap (λ k. framed_blocks holds m (slice_set k (j - m) v)) (unframed_passed beside m count e none)
      ∙ ap (λ k. framed_blocks holds m (slice_set ([] ∷ bs) k v)) next ∙ framed_passed holds m [] (slice_set bs (j - suc m) v) h

  own_behind : (m count : ℕ) (e v : Bytes) → m < j → holds m ≡ true → with_own m (suc count) e v ≡ framed m (first_block e) ++ with_own (suc m) count (behind e) v
  own_behind m count e v above h =
      let bs = unframed beside (suc m) count (behind e) in
      let next : j - m ≡ suc (j - suc m) = omega arith in
      let other : m ≢ j = omega arith in
      let kept : beside m ≡ true = rw (h, ne_eqb m j other) refl in
      ap (λ k. framed_blocks holds m (slice_set k (j - m) v)) (unframed_kept beside m count e kept)
      ∙ ap (λ k. framed_blocks holds m (slice_set (first_block e ∷ bs) k v)) next ∙ framed_kept holds m (first_block e) (slice_set bs (j - suc m) v) h

  -- in e, the end of a string of `total` bytes, so much stands in front of the place p
  record Found (m count total : ℕ) (e : Bytes) (p : ℕ) : Type 0 where
    front : ℕ
    place_is : p + length e ≡ total + front
    inside : front ≤ length e
    image : (v : Bytes) → with_own m count e v ≡ take front e ++ (framed j v ++ drop front e)

  found_behind : (m count total : ℕ) (e : Bytes) (p : ℕ) → m < j → holds m ≡ true → Begun m e → Found (suc m) count total (behind e) p → Found m (suc count) total e p
  found_behind m count total e p above h b f =
      let left = length-drop (4 + word e 2) e in
      let there = b.there in
      let inside = f.inside in
      record {
        front = 4 + word e 2 + f.front;
        place_is = omega (arith, f.place_is);
        inside = omega arith;
        image = λ v.
            own_behind m count e v above h ∙ ap (λ k. framed m (first_block e) ++ k) (f.image v)
            ∙ inserted (framed m (first_block e)) (behind e) (framed j v) e f.front (4 + word e 2 + f.front) b.whole (omega (arith, b.size));
      }

  found : (m count total place p : ℕ) (e : Bytes) → m + count ≤ 65536 → Small e → length e ≤ total → m ≤ j → j < m + count → holds j ≡ true
      → place_from total m count place e ≡ Some p → Found m count total e p
  found m zero total place p e low small long from to held is = absurd (omega arith)
  found m (suc count) total place p e low small long from to held is =
      go (holds m) (m == j) refl refl (λ e s l above. found (suc m) count total place p e (omega arith) s l above (omega arith) held)
    where
      go : (h t : Bool) → holds m ≡ h → (m == j) ≡ t
          → ((e : Bytes) → Small e → length e ≤ total → m < j → place_from total (suc m) count place e ≡ Some p → Found (suc m) count total e p)
          → Found m (suc count) total e p
      go true true h t above =
          let own = eqb-true m j t in
          let left = sym (from_own total m count place e h t) ∙ is in
          let here = passed (suc m) count total (total - length e) p e (omega (arith, own)) left in
          let exact = sym (found_exact (suc m) count total (total - length e) e (omega arith) small) ∙ ap is_some left in
          record { front = 0; place_is = omega (arith, here); inside = omega arith; image = λ v. own_first m count e v own h exact }
      go true false h t above =
          let other = eqb-false m j t in
          option_and_then_some (place_from total (suc m) count place) (behind_frame m e) p (sym (from_other total m count place e h t) ∙ is)
          (λ rest front next. behind_first rest (omega (arith, other)) h (begins m e rest front) next above)
        where
          behind_first : (rest : Bytes) → m < j → holds m ≡ true → (has_frame m e ≡ true) × (behind e ≡ rest) → place_from total (suc m) count place rest ≡ Some p
              → ((e : Bytes) → Small e → length e ≤ total → m < j → place_from total (suc m) count place e ≡ Some p → Found (suc m) count total e p)
              → Found m (suc count) total e p
          behind_first rest later h front next above =
              let shorter = length-drop (4 + word e 2) e in
              found_behind m count total e p later h (begun m e small front.0)
              (above (behind e) (small_behind e small) (omega arith) later (ap (place_from total (suc m) count place) front.1 ∙ next))
      go false t h s above =
          let other : m ≢ j = λ d. true≢false (sym held ∙ ap holds (sym d) ∙ h) in
          let later : m < j = omega arith in
          let f = above e small long later (sym (from_passed total m count place e h) ∙ is) in
          record { front = f.front; place_is = f.place_is; inside = f.inside; image = λ v. own_later m count e v later h ∙ f.image v }

-- a whole excerpt
module _ (f : Shape) (lawful : Lawful f) (j i : ℕ) (held : f.holds i j ≡ true) (e : Bytes) (small : Small e) where
  whole : place_among (length e) j (row_list f i) 0 e ≡ place_among (length e) j (keep_where (f.holds i) (numbers 1 f.blocks)) 0 e
  unfolding held_after
  whole =
      let count : f.blocks - 0 ≡ f.blocks = omega arith in
      ap (λ k. place_among (length e) j (keep_where (f.holds i) (numbers 1 k)) 0 e) count

  -- a place is found exactly where it is an excerpt
  place_exact : is_some (place_among (length e) j (row_list f i) 0 e) ≡ is_excerpt f j i e
  unfolding is_excerpt rest_blocks row_rest
  place_exact =
      let few = lawful.blocks_range in
      ap is_some whole ∙ found_exact (f.holds i) j 1 f.blocks (length e) 0 e (omega arith) small

  -- and it is where block j's own frame belongs
  place_is_own : (p : ℕ) → place_among (length e) j (row_list f i) 0 e ≡ Some p → OwnPlace f j i e p
  unfolding rest_blocks row_image image_around
  place_is_own p is =
      let few = lawful.blocks_range in
      let inside = lawful.inside i j held in
      let q = found (f.holds i) j 1 f.blocks (length e) 0 p e (omega arith) small (omega arith) (omega arith) (omega arith) held (sym whole ∙ is) in
      let place : q.front ≡ p = omega (arith, q.place_is) in
      record {
        exact = sym place_exact ∙ ap is_some is;
        inside = omega (arith, q.inside, place);
        image = λ v. ap (λ k. 1 ∷ (two_bytes i ++ k)) (q.image v ∙ ap (λ k. take k e ++ (framed j v ++ drop k e)) place);
      }

  -- where a frame is missing it is no excerpt
  pub not_exact : place_among (length e) j (row_list f i) 0 e ≡ None → is_excerpt f j i e ≡ false
  not_exact none = sym place_exact ∙ ap is_some none

  module _ (place : ℕ) (left : Bytes) (end : place_among (length e) j (row_list f i) 0 e ≡ then_some (length left == 0) place) where
    -- behind the last frame it is one exactly if nothing is left
    pub exact_at_end : is_excerpt f j i e ≡ (length left == 0)
    exact_at_end = sym place_exact ∙ ap is_some end ∙ go (length left == 0)
      where
        go : (b : Bool) → is_some (then_some b place) ≡ b
        go true = refl
        go false = refl

    pub own_at_end : length left ≡ 0 → OwnPlace f j i e place
    own_at_end none = place_is_own place (end ∙ ap (λ b. then_some b place) (eq-eqb (length left) 0 none))
