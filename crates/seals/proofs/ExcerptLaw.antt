-- An excerpt is the frames of a row's other blocks, and those blocks are read back from it.
use Rattle.std.proofs.Common.{◌≡◌, ℕ, zero, suc, ◌+◌, ◌<◌, ◌≤◌, Bool, true, false, cond, not, ◌&&◌, eqb, List, [], ◌∷◌, ◌++◌, length, take, drop, sym, refl, ap, ◌∙◌, ap₂, add-zero, add-suc, suc-add, arith}
use Rattle.std.proofs.lemmas.List.{take_at, drop_at, drop-drop}
use Rattle.std.proofs.lemmas.Bool.{and_from, and_parts, le-leb, leb-true, cond-true}
use Rattle.digests.specs.Strings.{Bytes, same}
use Rattle.families.specs.Shape.{Shape}
use Rattle.seals.specs.Images.{framed, framed_blocks, row_rest}
use Rattle.seals.specs.Part.{word}
use Rattle.seals.specs.Calls.{unframed, all_short, rest_blocks, is_excerpt}
use Rattle.seals.specs.Law.{ExcerptForm}
use Rattle.seals.proofs.Framing.{Short, Alike, word_value, image_fixed}
use Rattle.seals.proofs.Answers.{same_true, same_from}

-- a sheet with empty blocks where keep says no
pub blanked : (ℕ → Bool) → ℕ → List Bytes → List Bytes
blanked keep m [] = []
blanked keep m (b ∷ bs) = cond (keep m) b [] ∷ blanked keep (suc m) bs

pub length_blanked : (keep : ℕ → Bool) (m : ℕ) (bs : List Bytes) → length (blanked keep m bs) ≡ length bs
unfolding blanked
length_blanked keep m [] = refl
length_blanked keep m (b ∷ bs) = ap suc (length_blanked keep (suc m) bs)

pub blanked_alike : (keep : ℕ → Bool) (m : ℕ) (bs : List Bytes) → Alike keep m (blanked keep m bs) bs
unfolding blanked
blanked_alike keep m [] k e = refl
blanked_alike keep m (b ∷ bs) zero e = cond-true (keep m) b [] (rw add-zero at e)
blanked_alike keep m (b ∷ bs) (suc k) e = blanked_alike keep (suc m) bs k (rw (add-suc, ← suc-add) at e)

blanked_short : (keep : ℕ → Bool) (m : ℕ) (bs : List Bytes) → Short bs → Short (blanked keep m bs)
unfolding blanked
blanked_short keep m [] h k = h k
blanked_short keep m (b ∷ bs) h zero = go (keep m)
  where
    go : (t : Bool) → length (cond t b []) ≤ 38912
    go true = h 0
    go false = omega arith
blanked_short keep m (b ∷ bs) h (suc k) = blanked_short keep (suc m) bs (λ n. h (suc n)) k

-- the blocks that an image frames are read back from it
unframed_image : (keep : ℕ → Bool) (m : ℕ) (bs : List Bytes) → Short bs
    → unframed keep m (length bs) (framed_blocks keep m bs) ≡ blanked keep m bs
unfolding unframed framed_blocks blanked word
unframed_image keep m [] h = refl
unframed_image keep m (b ∷ bs) h = go (keep m) _ refl (unframed_image keep (suc m) bs (λ k. h (suc k)))
  where
    short : length b ≤ 38912 → length b < 65536
    short p = omega arith

    rest : Bytes
    rest = framed_blocks keep (suc m) bs

    first : take (word (framed m b ++ rest) 2) (b ++ rest) ≡ b
    first = ap (λ (z : ℕ). take z (b ++ rest)) (word_value (length b) (short (h 0))) ∙ take_at b rest (length b) refl

    second : drop (4 + word (framed m b ++ rest) 2) (framed m b ++ rest) ≡ rest
    second =
        ap (λ (z : ℕ). drop (4 + z) (framed m b ++ rest)) (word_value (length b) (short (h 0)))
        ∙ sym (drop-drop (length b) 4 (framed m b ++ rest)) ∙ drop_at b rest (length b) refl

    go : (t : Bool) (e : Bytes) → e ≡ cond t (framed m b) [] ++ rest → unframed keep (suc m) (length bs) rest ≡ blanked keep (suc m) bs
        → ◌≡◌ {A = List Bytes}
        (elim t [ true ↦ take (word e 2) (drop 4 e) ∷ unframed keep (suc m) (length bs) (drop (4 + word e 2) e) | false ↦ [] ∷ unframed keep (suc m) (length bs) e ])
        (cond t b [] ∷ blanked keep (suc m) bs)
    go true e d r = rw d (ap₂ {C = List Bytes} (λ x y. x ∷ y) first (ap (unframed keep (suc m) (length bs)) second ∙ r))
    go false e d r = rw d (ap {B = List Bytes} (λ z. [] ∷ z) r)

pub length_unframed : (keep : ℕ → Bool) (m k : ℕ) (e : Bytes) → length (unframed keep m k e) ≡ k
unfolding unframed
length_unframed keep m zero e = refl
length_unframed keep m (suc k) e = go (keep m) (length_unframed keep (suc m) k)
  where
    go : (t : Bool) → ((e : Bytes) → length (unframed keep (suc m) k e) ≡ k)
        → length {A = Bytes} (elim t [ true ↦ take (word e 2) (drop 4 e) ∷ unframed keep (suc m) k (drop (4 + word e 2) e) | false ↦ [] ∷ unframed keep (suc m) k e ]) ≡ suc k
    go true r = ap suc (r _)
    go false r = ap suc (r e)

pub all_short_short : (bs : List Bytes) → all_short bs ≡ true → Short bs
unfolding all_short
all_short_short [] h k = omega arith
all_short_short (b ∷ bs) h zero = leb-true (length b) 38912 (and_parts _ _ h).0
all_short_short (b ∷ bs) h (suc k) = all_short_short bs (and_parts _ _ h).1 k

short_all_short : (bs : List Bytes) → Short bs → all_short bs ≡ true
unfolding all_short
short_all_short [] h = refl
short_all_short (b ∷ bs) h = and_from _ _ (le-leb (length b) 38912 (h 0)) (short_all_short bs (λ k. h (suc k)))

module _ (f : Shape) where
  -- the other blocks of row i
  abbrev pub is_other : ℕ → ℕ → ℕ → Bool
  is_other i j m = f.holds i m && not (eqb m j)

  -- the other blocks of a row, read back from their excerpt
  pub rest_of_excerpt : (bs : List Bytes) (j i : ℕ) → length bs ≡ f.blocks → Short bs
      → rest_blocks f j i (row_rest f.holds i j bs) ≡ blanked (is_other i j) 1 bs
  unfolding rest_blocks row_rest
  rest_of_excerpt bs j i l h =
      ap (λ (n : ℕ). unframed (is_other i j) 1 n (framed_blocks (is_other i j) 1 bs)) (sym l) ∙ unframed_image (is_other i j) 1 bs h

  -- so it is an excerpt
  pub framing_excerpt : (bs : List Bytes) (j i : ℕ) → length bs ≡ f.blocks → Short bs
      → (same (row_rest f.holds i j (rest_blocks f j i (row_rest f.holds i j bs))) (row_rest f.holds i j bs) ≡ true)
      × (all_short (rest_blocks f j i (row_rest f.holds i j bs)) ≡ true)
  unfolding row_rest
  framing_excerpt bs j i l h =
      let back = rest_of_excerpt bs j i l h in (
        same_from _ _
            (ap (framed_blocks (is_other i j) 1) back
            ∙ image_fixed (is_other i j) 1 (blanked (is_other i j) 1 bs) bs (length_blanked (is_other i j) 1 bs) (blanked_alike (is_other i j) 1 bs)),
        rw back (short_all_short (blanked (is_other i j) 1 bs) (blanked_short (is_other i j) 1 bs h)),
      )

pub excerpt_form : ExcerptForm
unfolding is_excerpt rest_blocks
excerpt_form f j i e = (forth, back)
  where
    forth : is_excerpt f j i e ≡ true → (bs : List Bytes) × ((length bs ≡ f.blocks) × (all_short bs ≡ true) × (e ≡ row_rest f.holds i j bs))
    forth h =
        let both = and_parts _ _ h in
        (rest_blocks f j i e, (length_unframed (is_other f i j) 1 f.blocks e, both.1, sym (same_true _ _ both.0)))

    back : (bs : List Bytes) × ((length bs ≡ f.blocks) × (all_short bs ≡ true) × (e ≡ row_rest f.holds i j bs)) → is_excerpt f j i e ≡ true
    back h =
        let framing = framing_excerpt f h.0 j i h.1.0 (all_short_short h.0 h.1.1) in
        rw h.1.2 (and_from _ _ framing.0 framing.1)
