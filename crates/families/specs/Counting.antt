-- Counting the numbers below a bound that pass a test.
use Rattle.std.specs.Prelude.{◌≡◌, ℕ, zero, suc, ◌+◌, ◌<◌, ◌≤◌, Bool, true, false, ◌||◌, ◌==◌, nat_eq, refl}
use Rattle.std.proofs.Common.{sym, ap, ◌∙◌, inl, inr, arith}
use Rattle.std.proofs.lemmas.Bool.{cases_Bool, cases_order, or_cases, or_left, or_right, or_from, eqb-true, ne_eqb, both_ways}
use Rattle.families.specs.Numbers.{count, some}

pub count_le : (f : ℕ → Bool) (n : ℕ) → count f n ≤ n
count_le f zero = omega arith
count_le f (suc n) =
    let ih = count_le f n in
    elim (cases_Bool (f n)) [ inl e ↦ rw e (omega arith) | inr e ↦ rw e (omega arith) ]

-- a test that not all pass fails somewhere
pub fails_somewhere : (f : ℕ → Bool) (n : ℕ) → count f n < n → (a : ℕ) × (a < n) × (f a ≡ false)
fails_somewhere f zero h = absurd (omega arith)
fails_somewhere f (suc n) h =
    elim (cases_Bool (f n)) [
      | inl e ↦
          let h' : 1 + count f n < suc n = rw e at h in
          let r = fails_somewhere f n (omega arith) in
          (r.0, omega (arith, r.1), r.2)
      | inr e ↦ (n, omega arith, e)
    ]

pub passes_somewhere : (f : ℕ → Bool) (n : ℕ) → 1 ≤ count f n → (a : ℕ) × (a < n) × (f a ≡ true)
passes_somewhere f zero h = absurd (omega arith)
passes_somewhere f (suc n) h =
    elim (cases_Bool (f n)) [
      | inl e ↦ (n, omega arith, e)
      | inr e ↦
          let h' : 1 ≤ 0 + count f n = rw e at h in
          let r = passes_somewhere f n (omega arith) in
          (r.0, omega (arith, r.1), r.2)
    ]

-- what passes f passes g or h
pub count_either : (f g h : ℕ → Bool) (n : ℕ) → ((a : ℕ) → a < n → f a ≡ true → (g a || h a) ≡ true) → count f n ≤ count g n + count h n
count_either f g h zero w = omega arith
count_either f g h (suc n) w =
    let ih = count_either f g h n (λ a lt e. w a (omega arith) e) in
    elim (cases_Bool (f n)) [
      | inr e ↦ rw e (omega arith)
      | inl e ↦ elim (or_cases (g n) (h n) (w n (omega arith) e)) [ inl k ↦ rw (e, k) (omega arith) | inr k ↦ rw (e, k) (omega arith) ]
    ]

count_none : (r n : ℕ) → n ≤ r → count (λ a. nat_eq a r) n ≡ 0
count_none r zero h = refl
count_none r (suc n) h =
    let ih = count_none r n (omega arith) in
    rw (ne_eqb n r (omega arith)) (omega arith)

-- one number at most is r
pub count_one : (r n : ℕ) → count (λ a. nat_eq a r) n ≤ 1
count_one r zero = omega arith
count_one r (suc n) =
    let ih = count_one r n in
    elim (cases_Bool (n == r)) [
      | inl e ↦
          let at = eqb-true n r e in
          let none = count_none r n (omega arith) in
          rw e (omega arith)
      | inr e ↦ rw e (omega arith)
    ]

pub some_here : (f : ℕ → Bool) (n a : ℕ) → a < n → f a ≡ true → some f n ≡ true
some_here f zero a h e = absurd (omega arith)
some_here f (suc n) a h e =
    elim (cases_order a n) [
      | inl at ↦ or_left (f n) (some f n) (ap f (sym at) ∙ e)
      | inr (inl lt) ↦ or_right (f n) (some f n) (some_here f n a lt e)
      | inr (inr gt) ↦ absurd (omega arith)
    ]

pub none_there : (f : ℕ → Bool) (n : ℕ) → ((a : ℕ) → a < n → f a ≡ false) → some f n ≡ false
none_there f zero h = refl
none_there f (suc n) h = or_from (f n) (some f n) (h n (omega arith)) (none_there f n (λ a lt. h a (omega arith)))

pub some_where : (f : ℕ → Bool) (n : ℕ) → some f n ≡ true → (a : ℕ) × (a < n) × (f a ≡ true)
some_where f zero h = absurd (both_ways false refl h)
some_where f (suc n) h =
    elim (or_cases (f n) (some f n) h) [
      | inl e ↦ (n, omega arith, e)
      | inr e ↦ let r = some_where f n e in (r.0, omega (arith, r.1), r.2)
    ]

pub count_more : (f g : ℕ → Bool) (n : ℕ) → ((a : ℕ) → a < n → f a ≡ true → g a ≡ true) → count f n ≤ count g n
count_more f g zero w = omega arith
count_more f g (suc n) w =
    let ih = count_more f g n (λ a lt e. w a (omega arith) e) in
    elim (cases_Bool (f n)) [ inr e ↦ rw e (omega arith) | inl e ↦ rw (e, w n (omega arith) e) (omega arith) ]

pub count_false : (n : ℕ) → count (λ a. false) n ≡ 0
count_false zero = refl
count_false (suc n) =
    let ih = count_false n in
    omega arith
