-- An image fixes the blocks that it frames, and the blocks that it frames fix the image.
use Rattle.std.proofs.Common.{◌≡◌, ℕ, zero, suc, ◌+◌, ◌*◌, ◌/◌, ◌%◌, ◌<◌, ◌≤◌, Bool, true, false, cond, List, [], ◌∷◌, ◌++◌, length, get_or, take, drop, sym, refl, ap, ◌∙◌, add-zero, add-suc, suc-add, arith}
use mathlib.Core.Bool.{false≢true}
use Rattle.std.proofs.lemmas.List.{take_at, drop_at}
use Rattle.digests.specs.Strings.{Bytes}
use Rattle.seals.specs.Images.{framed, framed_blocks}

-- every block has at most 38912 bytes
abbrev pub Short : List Bytes → Type 0
Short bs = (k : ℕ) → length (get_or bs k []) ≤ 38912

-- two sheets have the same bytes in each kept block; the first block has number j
abbrev pub Alike : (ℕ → Bool) → ℕ → List Bytes → List Bytes → Type 0
Alike keep j xs ys = (k : ℕ) → keep (j + k) ≡ true → get_or xs k [] ≡ get_or ys k []

-- two bytes are read back as the number they were written for
pub word_value : (x : ℕ) → x < 65536 → x / 256 % 256 * 256 + x % 256 ≡ x
word_value x h = omega arith

two_bytes_fix : (x y : ℕ) → x ≤ 38912 → y ≤ 38912 → x / 256 % 256 ≡ y / 256 % 256 → x % 256 ≡ y % 256 → x ≡ y
two_bytes_fix x y hx hy p q = omega arith

fronts_equal : (a b ra rb : Bytes) → length a ≡ length b → a ++ ra ≡ b ++ rb → (a ≡ b) × (ra ≡ rb)
fronts_equal a b ra rb l e = (
  sym (take_at a ra (length a) refl) ∙ ap (take (length a)) e ∙ take_at b rb (length a) (sym l),
  sym (drop_at a ra (length a) refl) ∙ ap (drop (length a)) e ∙ drop_at b rb (length a) (sym l),
)

-- the first block of two equal images
first_block : (t : Bool) (j : ℕ) (a b ra rb : Bytes) → length a ≤ 38912 → length b ≤ 38912
    → cond t (framed j a) [] ++ ra ≡ cond t (framed j b) [] ++ rb → (t ≡ true → a ≡ b) × (ra ≡ rb)
first_block false j a b ra rb ha hb e = (λ f. absurd (false≢true f), e)
first_block true j a b ra rb ha hb e =
    let l : length a ≡ length b = two_bytes_fix (length a) (length b) ha hb (ap (λ (z : Bytes). get_or z 2 0) e) (ap (λ (z : Bytes). get_or z 3 0) e) in
    let both = fronts_equal a b ra rb l (ap (drop 4) e) in
    (λ _. both.0, both.1)

pub image_fixes : (keep : ℕ → Bool) (j : ℕ) (xs ys : List Bytes) → length xs ≡ length ys → Short xs → Short ys
    → framed_blocks keep j xs ≡ framed_blocks keep j ys → Alike keep j xs ys
unfolding framed_blocks
image_fixes keep j [] [] l ha hb e k t = refl
image_fixes keep j [] (b ∷ ys) l ha hb e k t = absurd (omega arith)
image_fixes keep j (a ∷ xs) [] l ha hb e k t = absurd (omega arith)
image_fixes keep j (a ∷ xs) (b ∷ ys) l ha hb e zero t =
    (first_block (keep j) j a b _ _ (ha 0) (hb 0) e).0 (rw add-zero at t)
image_fixes keep j (a ∷ xs) (b ∷ ys) l ha hb e (suc k) t =
    image_fixes keep (suc j) xs ys (omega arith) (λ m. ha (suc m)) (λ m. hb (suc m))
    (first_block (keep j) j a b _ _ (ha 0) (hb 0) e).1 k (rw (add-suc, ← suc-add) at t)

pub image_fixed : (keep : ℕ → Bool) (j : ℕ) (xs ys : List Bytes) → length xs ≡ length ys
    → Alike keep j xs ys → framed_blocks keep j xs ≡ framed_blocks keep j ys
unfolding framed_blocks
image_fixed keep j [] [] l h = refl
image_fixed keep j [] (b ∷ ys) l h = absurd (omega arith)
image_fixed keep j (a ∷ xs) [] l h = absurd (omega arith)
image_fixed keep j (a ∷ xs) (b ∷ ys) l h =
    go (keep j) refl (image_fixed keep (suc j) xs ys (omega arith) (λ k t. h (suc k) (rw (add-suc, ← suc-add) t)))
  where
    go : (t : Bool) → keep j ≡ t → framed_blocks keep (suc j) xs ≡ framed_blocks keep (suc j) ys
        → cond t (framed j a) [] ++ framed_blocks keep (suc j) xs ≡ cond t (framed j b) [] ++ framed_blocks keep (suc j) ys
    go true e rest = rw (h 0 (rw add-zero e), rest)
    go false e rest = rest
