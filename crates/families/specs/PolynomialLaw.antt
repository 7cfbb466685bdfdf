-- The polynomial family is cover-free, over any field.
use Rattle.std.specs.Prelude.{◌≡◌, ℕ, zero, suc, ◌+◌, ◌-◌, ◌*◌, ◌/◌, ◌%◌, ◌^◌, ◌<◌, ◌≤◌, min, Bool, false, ◌||◌, List, [], ◌∷◌, length, ◌==◌, ◌≢◌, nat_eq, refl}
use Rattle.std.proofs.Common.{sym, ap, ◌∙◌, mod-lt, div-lt_iff_lt-mul, div-mul-le_self, mul-le-mul_right, pow-suc, mul-zero, le_trans, arith}
use Rattle.std.proofs.Math.Nat.{div-add-mod, pow-zero}
use Rattle.std.proofs.Math.Arith.{digits_lt, digits_div, digits_mod}
use Rattle.std.specs.List.{AllByRecursion}
use Rattle.std.proofs.lemmas.Bool.{or_parts, eqb-false, eq-eqb, ne_eqb}
use Rattle.families.specs.Numbers.{count}
use Rattle.families.specs.Family.{Beside, NoneIn, CoverFree}
use Rattle.families.specs.Field.{FieldLaws}
use Rattle.families.specs.Polynomial.{digits, coefficients, value, poly_row, poly_held, CoefficientsDiffer, PolynomialCoverFree}
use Rattle.families.specs.Counting.{count_either, count_false, fails_somewhere, some_here, none_there}
use Rattle.families.specs.Bounded.{cover_bounded}
use Rattle.families.specs.Roots.{agree_few, value_below}

digits_length : (q k j : ℕ) → length (digits q k j) ≡ k
digits_length q zero j = refl
digits_length q (suc k) j = ap suc (digits_length q k (j / q))

digits_below : (q k j : ℕ) → 0 < q → AllByRecursion (λ c. c < q) (digits q k j)
digits_below q zero j h = tt
digits_below q (suc k) j h = (mod-lt j h, digits_below q k (j / q) h)

heads : {a b : ℕ} {as' bs : List ℕ} → ◌≡◌ {A = List ℕ} (a ∷ as') (b ∷ bs) → a ≡ b
heads e = cc

tails : {a b : ℕ} {as' bs : List ℕ} → ◌≡◌ {A = List ℕ} (a ∷ as') (b ∷ bs) → as' ≡ bs
tails e = cc

digits_same : (q k i j : ℕ) → 0 < q → i < q ^ k → j < q ^ k → digits q k i ≡ digits q k j → i ≡ j
digits_same q zero i j pos hi hj e = omega (arith, pow-zero q)
digits_same q (suc k) i j pos hi hj e =
    let low : i % q ≡ j % q = heads e in
    let high : i / q ≡ j / q =
    digits_same q k (i / q) (j / q) pos
    ((div-lt_iff_lt-mul pos).1 (rw pow-suc at hi))
    ((div-lt_iff_lt-mul pos).1 (rw pow-suc at hj)) (tails e)
    in
    sym (div-add-mod i q) ∙ ap (λ x. q * x + i % q) high ∙ ap (λ x. q * (j / q) + x) low ∙ div-add-mod j q

pub coefficients_differ : CoefficientsDiffer
coefficients_differ zero zero i j i1 hi j1 hj e = omega (arith, pow-zero 0)
coefficients_differ zero (suc k) i j i1 hi j1 hj e = omega (arith, pow-suc 0 k ∙ mul-zero (0 ^ k))
coefficients_differ (suc q) k i j i1 hi j1 hj e =
    let same = digits_same (suc q) k (i - 1) (j - 1) (omega arith) (omega arith) (omega arith) e in
    omega arith

module _ (q : ℕ) (sum product : ℕ → ℕ → ℕ) (F : FieldLaws q sum product) (k : ℕ) where
  abbrev at : ℕ → ℕ → ℕ
  at j a = value sum product (coefficients q k j) a

  at_below : (j a : ℕ) → at j a < q
  at_below j a = value_below q sum product F (coefficients q k j) a

  agree : (i j : ℕ) → 1 ≤ i → 1 ≤ j → i ≤ q ^ k → j ≤ q ^ k → (i ≢ j) → count (λ a. nat_eq (at i a) (at j a)) q < k
  agree i j i1 j1 hi hj ne =
      let pos : 0 < q = omega (arith, F.nontrivial) in
      agree_few q sum product F k (coefficients q k i) (coefficients q k j) (digits_length q k (i - 1)) (digits_length q k (j - 1))
      (digits_below q k (i - 1) pos) (digits_below q k (j - 1) pos) (λ e. ne (coefficients_differ q k i j i1 hi j1 hj e))

  -- some block of the list has j's value at a
  abbrev meets : ℕ → List ℕ → ℕ → Bool
  meets j [] a = false
  meets j (m ∷ ms) a = at m a == at j a || meets j ms a

  meets_few : (n j : ℕ) → 1 ≤ j → j ≤ q ^ k → n ≤ q ^ k → (ms : List ℕ) → Beside n j ms → count (meets j ms) q ≤ length ms * (k - 1)
  meets_few n j j1 hj hn [] b = omega (arith, count_false q)
  meets_few n j j1 hj hn (m ∷ ms) b =
      let ih = meets_few n j j1 hj hn ms b.1 in
      let here = agree m j b.0.0 j1 (omega (arith, b.0.1)) hj b.0.2 in
      let both = count_either (meets j (m ∷ ms)) (λ a. nat_eq (at m a) (at j a)) (meets j ms) q (λ a h e. e) in
      omega arith

  -- a row of another block is no row of j where the values differ
  apart : (j a : ℕ) → a < q → (m : ℕ) → (at m a == at j a) ≡ false → poly_held q sum product k (poly_row q sum product k j a) m ≡ false
  apart j a ha m differ =
      let row = poly_row q sum product k j a in
      none_there (λ b. nat_eq row (poly_row q sum product k m b)) q
      (λ b hb. ne_eqb row (poly_row q sum product k m b)
      (λ e.
      let same : a * q + at j a ≡ b * q + at m b = omega arith in
      let a-b : a ≡ b = sym (digits_div a (at_below j a)) ∙ ap (λ x. x / q) same ∙ digits_div b (at_below m b) in
      let v : at j a ≡ at m b = sym (digits_mod a (at_below j a)) ∙ ap (λ x. x % q) same ∙ digits_mod b (at_below m b) in
      eqb-false (at m a) (at j a) differ (ap (at m) a-b ∙ sym v)))

  none_held : (j a : ℕ) → a < q → (ms : List ℕ) → meets j ms a ≡ false → NoneIn (poly_held q sum product k) (poly_row q sum product k j a) ms
  none_held j a ha [] h = tt
  none_held j a ha (m ∷ ms) h =
      let parts = or_parts (at m a == at j a) (meets j ms a) h in
      (apart j a ha m parts.0, none_held j a ha ms parts.1)

  cover_free : (n : ℕ) → n ≤ q ^ k → CoverFree n (q * q) ((q - 1) / (k - 1)) (poly_held q sum product k)
  cover_free n hn = record {
    some_row = λ j j1 jn others few beside.
        let meet = meets_few n j j1 (omega arith) hn others beside in
        let most = le_trans (mul-le-mul_right (k - 1) few) (div-mul-le_self (q - 1) (k - 1)) in
        let free = fails_somewhere (meets j others) q (omega (arith, F.nontrivial)) in
        let a = free.0 in
        let row = poly_row q sum product k j a in (
          row,
          (
            omega arith,
            omega (arith, digits_lt {q = a} {r = at j a} free.1 (at_below j a)),
            some_here (λ b. nat_eq row (poly_row q sum product k j b)) q a free.1 (eq-eqb row row refl),
            none_held j a free.1 others free.2,
          ),
        );
  }

pub polynomial_cover_free : PolynomialCoverFree
polynomial_cover_free q sum product F k n =
    cover_bounded (min n (q ^ k)) (q * q) ((q - 1) / (k - 1)) (poly_held q sum product k)
    (cover_free q sum product F k (min n (q ^ k)) (omega arith))
