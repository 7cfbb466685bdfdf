-- Without a clash a row passes exactly if none of its blocks differs from the sealed ones, and the whole likewise.
use Rattle.std.proofs.Common.{◌≡◌, ℕ, ◌+◌, ◌-◌, ◌≤◌, Bool, true, eqb, ◌⊎◌, List, [], ◌∷◌, ◌++◌, length, get_or, drop, set, sym, refl, ap, ◌∙◌, subst, inl, inr, arith}
use Rattle.std.proofs.lemmas.List.{get_or-set_same, get_or-set_other}
use mathlib.Core.Bool.{false≢true}
use Rattle.std.proofs.lemmas.Bool.{or_cases, cases_eq, and_parts, eq-eqb, eqb-true}
use Rattle.digests.specs.Strings.{Bytes}
use Rattle.families.proofs.Apart.{has}
use Rattle.sheets.specs.Calls.{block_at, with_block}
use Rattle.seals.specs.Images.{two_bytes, row_image, whole_image}
use Rattle.seals.specs.Scheme.{Scheme, Inspection}
use Rattle.seals.specs.Part.{word}
use Rattle.seals.specs.Calls.{same_family, same_scheme, same_count, passes, agrees}
use Rattle.seals.specs.Law.{image_of, rows_of_sheet, NotAClash, NoClash}
use Rattle.seals.specs.Law.Image.{whole, row}
use Rattle.seals.proofs.Established.{Established}
use Rattle.seals.proofs.Framing.{Short, Alike, image_fixes, image_fixed}
use Rattle.seals.proofs.Answers.{same_true, same_from}
use Rattle.seals.proofs.History.{fits_short}

-- the same, by block numbers
pub alike_blocks : (keep : ℕ → Bool) (xs ys : List Bytes) → Alike keep 1 xs ys → (m : ℕ) → 1 ≤ m → keep m ≡ true → block_at xs m ≡ block_at ys m
alike_blocks keep xs ys h m p e = h (m - 1) (subst (λ (z : ℕ). keep z ≡ true) (omega arith) e)

pub blocks_alike : (keep : ℕ → Bool) (xs ys : List Bytes) → ((m : ℕ) → 1 ≤ m → keep m ≡ true → block_at xs m ≡ block_at ys m) → Alike keep 1 xs ys
blocks_alike keep xs ys h k e = subst (λ (z : ℕ). get_or xs z [] ≡ get_or ys z []) (omega arith) (h (1 + k) (omega arith) e)

pub short_with : (bs : List Bytes) (j : ℕ) (v : Bytes) → 1 ≤ j → j ≤ length bs → Short bs → length v ≤ 38912 → Short (with_block bs j v)
short_with bs j v p q h l k = go (cases_eq k (j - 1))
  where
    go : (k ≡ j - 1) ⊎ (k ≡ j - 1 → ⊥) → length (get_or (set bs (j - 1) v) k []) ≤ 38912
    go (inl e) = rw (e, get_or-set_same bs (j - 1) v [] (omega arith)) l
    go (inr e) = rw (get_or-set_other bs (j - 1) k v [] e) (h k)

-- a row that is compared does not clash
pub clear_at : (s : Scheme) (sealed bs : List Bytes) (is : List ℕ) → NoClash s sealed (rows_of_sheet bs is)
    → (i : ℕ) → has i is ≡ true → NotAClash s sealed (row i) bs
clear_at s sealed bs [] h i a = absurd (false≢true a)
clear_at s sealed bs (x ∷ is) h i a =
    elim (or_cases (eqb x i) (has i is) a) [
      | inl e ↦ subst (λ z. NotAClash s sealed (row z) bs) (eqb-true x i e) h.0
      | inr later ↦ clear_at s sealed bs is h.1 i later
    ]

module _ (s : Scheme) (own : Inspection) (part : Bytes) (sealed : List Bytes) (h : Established s own part sealed) where
  pub sealed_short : Short sealed
  sealed_short = fits_short sealed h.fits

  -- family and count are the seal's
  pub family_alike : same_family s.family part ≡ true
  unfolding same_scheme
  family_alike = (and_parts _ _ h.scheme_is).0

  pub count_alike : (bs : List Bytes) → length bs ≡ s.family.blocks → same_count bs part ≡ true
  unfolding same_count same_family
  count_alike bs l = eq-eqb (length bs) (word part 0) (l ∙ sym (eqb-true (word part 0) s.family.blocks (and_parts _ _ family_alike).0))

  -- a row that passes has its sealed blocks
  pub row_sealed : (bs : List Bytes) (i : ℕ) → 1 ≤ i → i ≤ s.family.rows → length bs ≡ s.family.blocks → Short bs → NotAClash s sealed (row i) bs
      → passes s part bs i ≡ true → (m : ℕ) → 1 ≤ m → s.family.holds i m ≡ true → block_at bs m ≡ block_at sealed m
  unfolding passes row_image image_of
  row_sealed bs i p q l short clear t =
      let digests : s.digest (row_image s.family.holds i bs) ≡ s.digest (row_image s.family.holds i sealed)
      = same_true _ _ t ∙ h.row_digests i p q in
      let images : row_image s.family.holds i bs ≡ row_image s.family.holds i sealed
      = clear digests in
      alike_blocks (s.family.holds i) bs sealed
      (image_fixes (s.family.holds i) 1 bs sealed (l ∙ sym h.counted) short sealed_short (ap (drop 3) images))

  -- and a row that has its sealed blocks passes
  pub row_passes : (bs : List Bytes) (i : ℕ) → 1 ≤ i → i ≤ s.family.rows → length bs ≡ s.family.blocks
      → ((m : ℕ) → 1 ≤ m → s.family.holds i m ≡ true → block_at bs m ≡ block_at sealed m) → passes s part bs i ≡ true
  unfolding passes row_image
  row_passes bs i p q l f =
      let images = image_fixed (s.family.holds i) 1 bs sealed (l ∙ sym h.counted) (blocks_alike (s.family.holds i) bs sealed f) in
      same_from _ _ (ap (λ (z : Bytes). s.digest (1 ∷ (two_bytes i ++ z))) images ∙ sym (h.row_digests i p q))

  -- a sheet that agrees as a whole has all its sealed blocks
  pub whole_sealed : (bs : List Bytes) → length bs ≡ s.family.blocks → Short bs → NotAClash s sealed whole bs
      → agrees s part bs ≡ true → (m : ℕ) → 1 ≤ m → block_at bs m ≡ block_at sealed m
  unfolding agrees image_of whole_image
  whole_sealed bs l short clear t m p =
      let images = clear (same_true _ _ t ∙ h.whole_digest_is) in
      alike_blocks (λ _. true) bs sealed
      (image_fixes (λ _. true) 1 bs sealed (l ∙ sym h.counted) short sealed_short (ap (drop 3) images)) m p refl
