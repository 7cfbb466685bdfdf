-- Laws of the byte strings. Assumes nothing.
use Rattle.std.proofs.Common.{◌≡◌, ℕ, zero, suc, ◌+◌, ◌-◌, ◌*◌, ◌/◌, ◌%◌, ◌^◌, ◌<◌, ◌≤◌, true, ◌==◌, [], ◌∷◌, ◌++◌, length, get_or, take, drop, sym, refl, ap, ◌∙◌, ap₂, ⊎_elim, mul-le-mul_left, arith}
use native.Mathlib.Nat.{div-div-eq-div-mul}
use Rattle.std.proofs.lemmas.List.{length-append, length-drop, length-take-le, take_all, take-append-le, drop-drop, drop_at, drop-append-le, drop-take, take-take}
use Rattle.std.proofs.lemmas.Bool.{cases_lt, eqb-true, and_parts, false≢true}
use Rattle.digests.specs.Strings.{Bytes, same}
use Rattle.keys.specs.Same.{same_self}
use Rattle.lms.specs.Strings.{u32str, str_to_u32, bytes_at, concat_all, coefficient}

pub same_true : (xs ys : Bytes) → same xs ys ≡ true → xs ≡ ys
same_true [] [] e = refl
same_true [] (y ∷ ys) e = absurd (false≢true e)
same_true (x ∷ xs) [] e = absurd (false≢true e)
same_true (x ∷ xs) (y ∷ ys) e =
    let both = and_parts (x == y) (same xs ys) e in
    ap₂ ◌∷◌ (eqb-true x y both.0) (same_true xs ys both.1)

pub same_equal : (xs ys : Bytes) → xs ≡ ys → same xs ys ≡ true
same_equal xs ys e = ap (λ (zs : Bytes). same xs zs) (sym e) ∙ same_self xs

pub length_u32str : (a : ℕ) → length (u32str a) ≡ 4
unfolding u32str
length_u32str a = refl

joined_digits : (a x y z : ℕ) → x ≡ a / 256 → y ≡ x / 256 → z ≡ y / 256 → z < 256 → z % 256 * 16777216 + y % 256 * 65536 + x % 256 * 256 + a % 256 ≡ a
joined_digits a x y z e f g l = omega arith

pub str_to_u32_u32str : (a : ℕ) → a < 2 ^ 32 → str_to_u32 (u32str a) ≡ a
unfolding u32str str_to_u32
str_to_u32_u32str a l =
    joined_digits a (a / 256) (a / 65536) (a / 16777216) refl (sym (div-div-eq-div-mul a 256 256)) (sym (div-div-eq-div-mul a 65536 256)) (omega arith)

-- a part of a ++ b that lies within a
pub bytes_left : (a b : Bytes) (i k : ℕ) → i + k ≤ length a → bytes_at (a ++ b) i k ≡ bytes_at a i k
unfolding bytes_at
bytes_left a b i k l = simp (drop-append-le i a b (omega arith), take-append-le k (drop i a) b (simp length-drop (omega arith)))

-- and one that lies within b
pub bytes_right : (a b : Bytes) (l i k : ℕ) → length a ≡ l → bytes_at (a ++ b) (l + i) k ≡ bytes_at b i k
unfolding bytes_at
bytes_right a b l i k e = rw (← drop-drop i l (a ++ b), drop_at a b l e)

pub bytes_whole : (a : Bytes) (k : ℕ) → length a ≡ k → bytes_at a 0 k ≡ a
unfolding bytes_at
bytes_whole a k e = take_all k a (omega arith)

-- a part of a part
pub bytes_part : (s : Bytes) (a k i j : ℕ) → i + j ≤ k → bytes_at (bytes_at s a k) i j ≡ bytes_at s (a + i) j
unfolding bytes_at
bytes_part s a k i j l =
    let e : k ≡ i + (k - i) = omega arith in
    ap (λ (n : ℕ). take j (drop i (take n (drop a s)))) e
    ∙ ap (take j) (drop-take i (k - i) (drop a s))
    ∙ take-take j (k - i) (drop i (drop a s)) (omega arith)
    ∙ ap (take j) (drop-drop i a s)

pub length_part : (s : Bytes) (a k : ℕ) → a + k ≤ length s → length (bytes_at s a k) ≡ k
unfolding bytes_at
length_part s a k l = length-take-le k (drop a s) (simp length-drop (omega arith))

-- the middle of three strings
pub bytes_mid : (a b c : Bytes) (l k : ℕ) → length a ≡ l → length b ≡ k → bytes_at (a ++ b ++ c) l k ≡ b
bytes_mid a b c l k ea eb =
    bytes_left (a ++ b) c l k (simp length-append (omega arith))
    ∙ ap (λ (j : ℕ). bytes_at (a ++ b) j k) (omega arith)
    ∙ bytes_right a b l 0 k ea
    ∙ bytes_whole b k eb

pub length_concat : (k l : ℕ) (f : ℕ → Bytes) → ((i : ℕ) → length (f i) ≡ l) → length (concat_all k f) ≡ l * k
unfolding concat_all
length_concat zero l f e = omega arith
length_concat (suc k) l f e = length-append (concat_all k f) (f k) ∙ omega (arith, length_concat k l f e, e k)

pub concat_same : (k : ℕ) (f g : ℕ → Bytes) → ((i : ℕ) → i < k → f i ≡ g i) → concat_all k f ≡ concat_all k g
unfolding concat_all
concat_same zero f g e = refl
concat_same (suc k) f g e = ap₂ ◌++◌ (concat_same k f g (λ i h. e i (omega arith))) (e k (omega arith))

-- piece i of pieces of l bytes
pub bytes_concat : (k l : ℕ) (f : ℕ → Bytes) → ((i : ℕ) → length (f i) ≡ l) → (i : ℕ) → i < k → bytes_at (concat_all k f) (l * i) l ≡ f i
unfolding concat_all
bytes_concat zero l f e i h = absurd (omega arith)
bytes_concat (suc k) l f e i h = ⊎_elim (λ g. within g (bytes_concat k l f e i g)) last (cases_lt i k)
  where
    all : length (concat_all k f) ≡ l * k
    all = length_concat k l f e

    within : i < k → bytes_at (concat_all k f) (l * i) l ≡ f i → bytes_at (concat_all k f ++ f k) (l * i) l ≡ f i
    within g ih = bytes_left (concat_all k f) (f k) (l * i) l (omega (arith, all, mul-le-mul_left l g)) ∙ ih

    last : k ≤ i → bytes_at (concat_all k f ++ f k) (l * i) l ≡ f i
    last g =
        let same : i ≡ k = omega arith in
        rw same
        (ap (λ (j : ℕ). bytes_at (concat_all k f ++ f k) j l) (omega arith)
        ∙ bytes_right (concat_all k f) (f k) (l * k) 0 l all
        ∙ bytes_whole (f k) l (e k))

pub coefficient_byte : (s : Bytes) (i : ℕ) → coefficient s i 8 ≡ get_or s i 0 % 256
unfolding coefficient
coefficient_byte s i =
    let a : i * 8 / 8 ≡ i = omega arith in
    let b : 8 - (8 * (i % 1) + 8) ≡ 0 = omega arith in
    rw (a, b) (ap (λ (x : ℕ). x % 256) (omega arith))

pub coefficient_small : (s : Bytes) (i : ℕ) → coefficient s i 8 ≤ 255
unfolding coefficient
coefficient_small s i = omega arith
