-- What a test keeps of a list of numbers, and whether one of them passes it.
use Rattle.std.proofs.Common.{◌≡◌, ℕ, zero, suc, ◌+◌, ◌<◌, ◌≤◌, Bool, true, false, ◌&&◌, eqb, ◌⊎◌, List, [], ◌∷◌, length, get_or, sym, refl, ap, ap₂, ◌∙◌, inl, inr, arith}
use mathlib.Core.Bool.{false≢true}
use Rattle.std.proofs.lemmas.Bool.{both_ways, cases_Bool, or_cases, or_left, or_right, or_from, or_parts, eqb-true, eqb-false, eq-eqb}
use Rattle.families.specs.Numbers.{numbers, keep_where, any_of}
use Rattle.families.specs.Family.{Rising, touches}
use Rattle.families.proofs.Apart.{has}
use Rattle.seals.specs.Law.{up_to_first}

pub has_first : (x : ℕ) (xs : List ℕ) → has x (x ∷ xs) ≡ true
has_first x xs = or_left (eqb x x) (has x xs) (eq-eqb x x refl)

pub has_later : (x y : ℕ) (xs : List ℕ) → has x xs ≡ true → has x (y ∷ xs) ≡ true
has_later x y xs h = or_right (eqb y x) (has x xs) h

pub has_some : (x : ℕ) (xs : List ℕ) → has x xs ≡ true → 1 ≤ length xs
has_some x [] h = absurd (false≢true h)
has_some x (y ∷ ys) h = omega arith

-- a range has the numbers from its first to its last, and no others
pub has_number : (from count x : ℕ) → from ≤ x → x < from + count → has x (numbers from count) ≡ true
unfolding numbers
has_number from zero x low high = absurd (omega arith)
has_number from (suc count) x low high =
    elim (cases_Bool (eqb from x)) [
      | inl e ↦ or_left (eqb from x) (has x (numbers (suc from) count)) e
      | inr e ↦
          let differ = eqb-false from x e in
          has_later x from (numbers (suc from) count) (has_number (suc from) count x (omega arith) (omega arith))
    ]

pub number_had : (from count x : ℕ) → has x (numbers from count) ≡ true → (from ≤ x) × (x < from + count)
unfolding numbers
number_had from zero x h = absurd (false≢true h)
number_had from (suc count) x h =
    elim (or_cases (eqb from x) (has x (numbers (suc from) count)) h) [
      | inl e ↦ let at = eqb-true from x e in (omega arith, omega arith)
      | inr e ↦ let at = number_had (suc from) count x e in (omega (arith, at.0), omega (arith, at.1))
    ]

-- tests that agree on a list keep the same of it
pub keep_same : (p q : ℕ → Bool) (xs : List ℕ) → ((x : ℕ) → has x xs ≡ true → p x ≡ q x) → keep_where p xs ≡ keep_where q xs
unfolding keep_where
keep_same p q [] h = refl
keep_same p q (x ∷ xs) h =
    ap₂ {C = List ℕ} (λ (t : Bool) (z : List ℕ). elim t [ true ↦ x ∷ z | false ↦ z ]) (h x (has_first x xs)) (keep_same p q xs (λ y a. h y (has_later y x xs a)))

-- a test that says yes more often keeps as many or more
pub keep_more : (p q : ℕ → Bool) (xs : List ℕ) → ((x : ℕ) → has x xs ≡ true → p x ≡ true → q x ≡ true)
    → length (keep_where p xs) ≤ length (keep_where q xs)
unfolding keep_where
keep_more p q [] h = omega arith
keep_more p q (x ∷ xs) h = go (p x) (q x) (h x (has_first x xs)) (keep_more p q xs (λ y a. h y (has_later y x xs a)))
  where
    go : (a b : Bool) → (a ≡ true → b ≡ true) → length (keep_where p xs) ≤ length (keep_where q xs)
        → length {A = ℕ} (elim a [ true ↦ x ∷ keep_where p xs | false ↦ keep_where p xs ])
        ≤ length {A = ℕ} (elim b [ true ↦ x ∷ keep_where q xs | false ↦ keep_where q xs ])
    go true true e r = omega arith
    go true false e r = absurd (false≢true (e refl))
    go false true e r = omega arith
    go false false e r = r

pub keep_none : (p : ℕ → Bool) (xs : List ℕ) → ((x : ℕ) → has x xs ≡ true → p x ≡ false) → keep_where p xs ≡ []
unfolding keep_where
keep_none p [] h = refl
keep_none p (x ∷ xs) h = rw (h x (has_first x xs), keep_where) (keep_none p xs (λ y a. h y (has_later y x xs a)))

-- two tests in turn are one
pub keep_keep : (p q : ℕ → Bool) (xs : List ℕ) → keep_where q (keep_where p xs) ≡ keep_where (λ x. p x && q x) xs
unfolding keep_where
keep_keep p q [] = refl
keep_keep p q (x ∷ xs) = go (p x) (keep_keep p q xs)
  where
    go : (a : Bool) → keep_where q (keep_where p xs) ≡ keep_where (λ x. p x && q x) xs
        → keep_where q (elim a [ true ↦ x ∷ keep_where p xs | false ↦ keep_where p xs ])
        ≡ (elim (a && q x) [ true ↦ x ∷ keep_where (λ x. p x && q x) xs | false ↦ keep_where (λ x. p x && q x) xs ])
    go true r = ap {B = List ℕ} (λ (z : List ℕ). elim (q x) [ true ↦ x ∷ z | false ↦ z ]) r
    go false r = r

-- what is kept is what passes
pub kept : (p : ℕ → Bool) (x : ℕ) (xs : List ℕ) → has x xs ≡ true → p x ≡ true → has x (keep_where p xs) ≡ true
unfolding keep_where
kept p x [] h e = absurd (false≢true h)
kept p x (y ∷ ys) h e = go (p y) refl (or_cases (eqb y x) (has x ys) h) (λ later. kept p x ys later e)
  where
    go : (a : Bool) → p y ≡ a → (eqb y x ≡ true) ⊎ (has x ys ≡ true) → (has x ys ≡ true → has x (keep_where p ys) ≡ true)
        → has x (elim a [ true ↦ y ∷ keep_where p ys | false ↦ keep_where p ys ]) ≡ true
    go true here (inl at) r = or_left (eqb y x) (has x (keep_where p ys)) at
    go true here (inr later) r = has_later x y (keep_where p ys) (r later)
    go false here (inl at) r = absurd (both_ways (p y) here (ap p (eqb-true y x at) ∙ e))
    go false here (inr later) r = r later

pub kept_passes : (p : ℕ → Bool) (x : ℕ) (xs : List ℕ) → has x (keep_where p xs) ≡ true → p x ≡ true
unfolding keep_where
kept_passes p x [] h = absurd (false≢true h)
kept_passes p x (y ∷ ys) h = go (p y) refl h (kept_passes p x ys)
  where
    go : (a : Bool) → p y ≡ a → has x (elim a [ true ↦ y ∷ keep_where p ys | false ↦ keep_where p ys ]) ≡ true
        → (has x (keep_where p ys) ≡ true → p x ≡ true) → p x ≡ true
    go false e k r = r k
    go true e k r =
        elim (or_cases (eqb y x) (has x (keep_where p ys)) k) [
          | inl at ↦ ap p (sym (eqb-true y x at)) ∙ e
          | inr later ↦ r later
        ]

-- what is kept of the numbers behind `low` is a set
pub kept_set : (p : ℕ → Bool) (n low count : ℕ) → low + count ≤ n → Rising n low (keep_where p (numbers (suc low) count))
unfolding keep_where numbers
kept_set p n low zero l = tt
kept_set p n low (suc count) l = go (p (suc low)) (kept_set p n (suc low) count (omega arith))
  where
    lower : (xs : List ℕ) → Rising n (suc low) xs → Rising n low xs
    lower [] r = tt
    lower (x ∷ xs) r = (omega arith, r.1, r.2)

    go : (a : Bool) → Rising n (suc low) (keep_where p (numbers (suc (suc low)) count))
        → Rising n low (elim a [ true ↦ suc low ∷ keep_where p (numbers (suc (suc low)) count) | false ↦ keep_where p (numbers (suc (suc low)) count) ])
    go true r = (omega arith, omega arith, r)
    go false r = lower _ r

-- some number of a list passes, or none does
pub any_yes : (p : ℕ → Bool) (x : ℕ) (xs : List ℕ) → has x xs ≡ true → p x ≡ true → any_of p xs ≡ true
unfolding any_of
any_yes p x [] h e = absurd (false≢true h)
any_yes p x (y ∷ ys) h e = go (p y) refl (or_cases (eqb y x) (has x ys) h) (λ later. any_yes p x ys later e)
  where
    go : (a : Bool) → p y ≡ a → (eqb y x ≡ true) ⊎ (has x ys ≡ true) → (has x ys ≡ true → any_of p ys ≡ true)
        → ◌≡◌ {A = Bool} (elim a [ true ↦ true | false ↦ any_of p ys ]) true
    go true here c r = refl
    go false here (inl at) r = absurd (both_ways (p y) here (ap p (eqb-true y x at) ∙ e))
    go false here (inr later) r = r later

pub any_no : (p : ℕ → Bool) (xs : List ℕ) → ((x : ℕ) → has x xs ≡ true → p x ≡ false) → any_of p xs ≡ false
unfolding any_of
any_no p [] h = refl
any_no p (x ∷ xs) h = rw (h x (has_first x xs), any_of) (any_no p xs (λ y a. h y (has_later y x xs a)))

-- tests that agree on a list find alike
pub any_same : (p q : ℕ → Bool) (xs : List ℕ) → ((x : ℕ) → has x xs ≡ true → p x ≡ q x) → any_of p xs ≡ any_of q xs
unfolding any_of
any_same p q [] h = refl
any_same p q (x ∷ xs) h =
    ap₂ {C = Bool} (λ (t z : Bool). elim t [ true ↦ true | false ↦ z ]) (h x (has_first x xs)) (any_same p q xs (λ y a. h y (has_later y x xs a)))

-- a row that holds none of a list
pub none_touched : (holds : ℕ → ℕ → Bool) (i : ℕ) (xs : List ℕ) → ((x : ℕ) → holds i x ≡ true → has x xs ≡ false) → touches holds xs i ≡ false
none_touched holds i [] h = refl
none_touched holds i (x ∷ xs) h =
    elim (cases_Bool (holds i x)) [
      | inl e ↦ absurd (both_ways (has x (x ∷ xs)) (h x e) (has_first x xs))
      | inr e ↦ or_from (holds i x) (touches holds xs i) e (none_touched holds i xs (λ y a. (or_parts (eqb x y) (has y xs) (h y a)).1))
    ]

-- the first number that two tests keep: both say yes to it, and it is among those up to the first that the second one says yes to
pub first_kept : (p q : ℕ → Bool) (xs : List ℕ) → 1 ≤ length (keep_where (λ x. p x && q x) xs)
    → (p (get_or (keep_where (λ x. p x && q x) xs) 0 0) ≡ true) × (q (get_or (keep_where (λ x. p x && q x) xs) 0 0) ≡ true)
    × (has (get_or (keep_where (λ x. p x && q x) xs) 0 0) (up_to_first q (keep_where p xs)) ≡ true)
unfolding keep_where up_to_first
first_kept p q [] h = absurd (omega arith)
first_kept p q (x ∷ xs) h = go (p x) refl (q x) refl h (first_kept p q xs)
  where
    both : List ℕ
    both = keep_where (λ x. p x && q x) xs

    go : (a : Bool) → p x ≡ a → (b : Bool) → q x ≡ b → 1 ≤ length {A = ℕ} (elim (a && b) [ true ↦ x ∷ both | false ↦ both ])
        → (1 ≤ length both → (p (get_or both 0 0) ≡ true) × (q (get_or both 0 0) ≡ true) × (has (get_or both 0 0) (up_to_first q (keep_where p xs)) ≡ true))
        → (p (get_or (elim (a && b) [ true ↦ x ∷ both | false ↦ both ]) 0 0) ≡ true) × (q (get_or (elim (a && b) [ true ↦ x ∷ both | false ↦ both ]) 0 0) ≡ true)
        × (has (get_or (elim (a && b) [ true ↦ x ∷ both | false ↦ both ]) 0 0) (up_to_first q (elim a [ true ↦ x ∷ keep_where p xs | false ↦ keep_where p xs ])) ≡ true)
    go true ea true eb l r = (ea, eb, has_first x _)
    go true ea false eb l r = ((r l).0, (r l).1, rw (eb, up_to_first) (has_later _ x _ (r l).2))
    go false ea b eb l r = r l
