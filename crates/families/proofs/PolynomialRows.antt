-- The rows of the polynomial family, one block after the other.
use Rattle.std.proofs.Common.{◌≡◌, ℕ, suc, ◌+◌, ◌-◌, ◌*◌, ◌/◌, ◌%◌, ◌<◌, ◌≤◌, Bool, false, eqb, ◌⊎◌, List, ◌∷◌, Some, None, sym, refl, ap, ◌∙◌, subst, inl, inr, mod-lt, div-lt_iff_lt-mul, add-mul, one-mul, div-add-mod', div-mul-le_self, arith}
use native.Mathlib.Nat.{lt-div-mul-add}
use lib.Arith.{digits_div, digits_mod}
use Rattle.std.proofs.lemmas.Bool.{cases_Bool, cases_lt, eqb-true, eqb-false, eq-eqb, ne_eqb}
use Rattle.families.specs.Numbers.{lowest}
use Rattle.families.specs.Field.{FieldLaws}
use Rattle.families.specs.Polynomial.{digits, coefficients, value, poly_row, poly_held, poly_blocks, poly_holds, Only, Opposite, FirstWith}
use Rattle.families.specs.Counting.{some_here, none_there}
use Rattle.families.specs.Bounded.{bounded_within, bounded_row}
use Rattle.families.specs.Lowest.{lowest_found, lowest_none}
use Rattle.families.specs.Roots.{value_below, sum_zero}

-- two equations that hold together have one test
same_test : (a b c d : ℕ) → (a ≡ b → c ≡ d) → (c ≡ d → a ≡ b) → eqb a b ≡ eqb c d
same_test a b c d to from =
    elim (cases_Bool (eqb c d)) [
      | inl e ↦ eq-eqb a b (from (eqb-true c d e)) ∙ sym e
      | inr e ↦ ne_eqb a b (λ h. eqb-false c d e (to h)) ∙ sym e
    ]

module _ (q : ℕ) (◌⊕◌ ◌⊗◌ : ℕ → ℕ → ℕ) (F : FieldLaws q ◌⊕◌ ◌⊗◌) where
  infixl 65 ◌⊕◌
  infixl 70 ◌⊗◌
  pos : 0 < q
  pos = omega (arith, F.nontrivial)

  -- a row holds a block exactly if the block's polynomial has the row's value at the row's element
  held_at : (k a v j : ℕ) → a < q → v < q → poly_held q ◌⊕◌ ◌⊗◌ k (a * q + v + 1) j ≡ eqb (value ◌⊕◌ ◌⊗◌ (coefficients q k j) a) v
  held_at k a v j ha hv =
      let row = a * q + v + 1 in
      let at = value ◌⊕◌ ◌⊗◌ (coefficients q k j) in
      elim (cases_Bool (eqb (at a) v)) [
        | inl e ↦
            let same = eqb-true (at a) v e in
            some_here (λ b. eqb row (poly_row q ◌⊕◌ ◌⊗◌ k j b)) q a ha (eq-eqb row (poly_row q ◌⊕◌ ◌⊗◌ k j a) (ap (λ x. a * q + x + 1) (sym same))) ∙ sym e
        | inr e ↦
            none_there (λ b. eqb row (poly_row q ◌⊕◌ ◌⊗◌ k j b)) q
            (λ b hb. ne_eqb row (poly_row q ◌⊕◌ ◌⊗◌ k j b)
            (λ h.
            let below = value_below q ◌⊕◌ ◌⊗◌ F (coefficients q k j) b in
            let same : a * q + v ≡ b * q + at b = omega arith in
            let a-b : a ≡ b = sym (digits_div a hv) ∙ ap (λ x. x / q) same ∙ digits_div b below in
            let v-at : v ≡ at b = sym (digits_mod a hv) ∙ ap (λ x. x % q) same ∙ digits_mod b below in
            eqb-false (at a) v e (ap at a-b ∙ sym v-at)))
            ∙ sym e
      ]

  pub holds_at : (k n row j : ℕ) → 1 ≤ row → row ≤ q * q → 1 ≤ j → j ≤ poly_blocks q k n
      → poly_holds q ◌⊕◌ ◌⊗◌ k n row j ≡ eqb (value ◌⊕◌ ◌⊗◌ (digits q k (j - 1)) ((row - 1) / q)) ((row - 1) % q)
  holds_at k n row j r1 rq j1 jn =
      let a = (row - 1) / q in
      let v = (row - 1) % q in
      let whole : a * q + v + 1 ≡ row = omega (arith, div-add-mod' (row - 1) q) in
      let ha : a < q = (div-lt_iff_lt-mul pos).1 (omega arith) in
      bounded_within (poly_blocks q k n) (q * q) (poly_held q ◌⊕◌ ◌⊗◌ k) row j r1 rq j1 jn
      ∙ ap (λ i. poly_held q ◌⊕◌ ◌⊗◌ k i j) (sym whole) ∙ held_at k a v j ha (mod-lt (row - 1) pos)

  -- the one constant that makes a value
  only_constant : (higher : List ℕ) (element v rest negated : ℕ) → rest ≡ element ⊗ value ◌⊕◌ ◌⊗◌ higher element → v < q → negated < q → rest ⊕ negated ≡ 0
      → Only q ◌⊕◌ ◌⊗◌ higher element v (v ⊕ negated)
  only_constant higher element v rest negated is hv hn none = (
    F.sum_below v negated,
    λ x hx.
        ap (λ r. eqb (x ⊕ r) v) (sym is)
        ∙ same_test (x ⊕ rest) v x (v ⊕ negated)
        (λ e. sym (sum_zero q ◌⊕◌ ◌⊗◌ F x hx) ∙ ap (λ y. x ⊕ y) (sym none) ∙ sym (F.sum_assoc x rest negated) ∙ ap (λ y. y ⊕ negated) e)
        (λ e. ap (λ y. y ⊕ rest) e ∙ F.sum_assoc v negated rest ∙ ap (λ y. v ⊕ y) (F.sum_comm negated rest ∙ none) ∙ sum_zero q ◌⊕◌ ◌⊗◌ F v hv),
  )

  -- the same by the negative that stands for a number whose lowest digit is the element
  pub only_opposite : (k higher element v negative : ℕ) → element < q → v < q → Opposite q ◌⊕◌ ◌⊗◌ k (higher * q + element) negative
      → Only q ◌⊕◌ ◌⊗◌ (digits q (k - 1) higher) element v (v ⊕ negative)
  only_opposite k higher element v negative he hv opposite =
      let x = higher * q + element in
      let rest = (x % q) ⊗ value ◌⊕◌ ◌⊗◌ (digits q (k - 1) (x / q)) (x % q) in
      only_constant (digits q (k - 1) higher) element v rest negative
      (ap (λ e. e ⊗ value ◌⊕◌ ◌⊗◌ (digits q (k - 1) (x / q)) e) (digits_mod higher he)
      ∙ ap (λ h. element ⊗ value ◌⊕◌ ◌⊗◌ (digits q (k - 1) h) element) (digits_div higher he))
      hv opposite.0 opposite.1

  module _ (k : ℕ) (k1 : 1 ≤ k) (element v : ℕ) where
    abbrev hits : ℕ → Bool
    hits x = eqb (value ◌⊕◌ ◌⊗◌ (digits q k x) element) v

    digits_more : (x : ℕ) → digits q k x ≡ x % q ∷ digits q (k - 1) (x / q)
    digits_more x = let more : k ≡ suc (k - 1) = omega arith in ap (λ i. digits q i x) more

    -- in a group of numbers with the same higher digits only one makes the value
    in_group : (g c x : ℕ) → Only q ◌⊕◌ ◌⊗◌ (digits q (k - 1) g) element v c → g * q ≤ x → x < g * q + q → hits x ≡ eqb x (g * q + c)
    in_group g c x only low high =
        let r = x - g * q in
        let whole : g * q + r ≡ x = omega arith in
        let hr : r < q = omega arith in
        let group : x / q ≡ g = ap (λ y. y / q) (sym whole) ∙ digits_div g hr in
        let digit : x % q ≡ r = ap (λ y. y % q) (sym whole) ∙ digits_mod g hr in
        ap (λ ds. eqb (value ◌⊕◌ ◌⊗◌ ds element) v) (digits_more x)
        ∙ ap (λ y. eqb (value ◌⊕◌ ◌⊗◌ (y ∷ digits q (k - 1) (x / q)) element) v) digit
        ∙ ap (λ y. eqb (value ◌⊕◌ ◌⊗◌ (r ∷ digits q (k - 1) y) element) v) group
        ∙ only.1 r hr ∙ same_test r c x (g * q + c) (λ e. omega arith) (λ e. omega arith)

    pub first_here : (from c : ℕ) → Only q ◌⊕◌ ◌⊗◌ (digits q (k - 1) (from / q)) element v c → from ≤ from / q * q + c
        → FirstWith q ◌⊕◌ ◌⊗◌ k element v from (from / q * q + c)
    first_here from c only low = (
      low,
      λ x l h.
          let start = div-mul-le_self from q in
          in_group (from / q) c x only (omega arith) (omega (arith, only.0)),
    )

    pub first_later : (from c d : ℕ) → Only q ◌⊕◌ ◌⊗◌ (digits q (k - 1) (from / q)) element v c → from / q * q + c < from
        → Only q ◌⊕◌ ◌⊗◌ (digits q (k - 1) (from / q + 1)) element v d → FirstWith q ◌⊕◌ ◌⊗◌ k element v from ((from / q + 1) * q + d)
    first_later from c d only gone next =
        let g = from / q in
        let start = div-mul-le_self from q in
        let end = lt-div-mul-add {a = from} pos in
        let later : (g + 1) * q ≡ g * q + q = add-mul g 1 q ∙ ap (λ y. g * q + y) (one-mul q) in (
          omega arith,
          λ x l h.
              elim (cases_lt x (g * q + q)) [
                | inl here ↦ in_group g c x only (omega arith) here ∙ ne_eqb x (g * q + c) (λ e. omega arith) ∙ sym (ne_eqb x ((g + 1) * q + d) (λ e. omega arith))
                | inr past ↦ in_group (g + 1) d x next (omega arith) (omega (arith, next.0))
              ],
        )

    -- the same for a divisor that is known to be q, with a bound
    pub here_by : (p from c : ℕ) → p ≡ q → q ≤ 16 → from ≤ 512 → Only q ◌⊕◌ ◌⊗◌ (digits q (k - 1) (from / p)) element v c → from ≤ from / p * p + c
        → FirstWith q ◌⊕◌ ◌⊗◌ k element v from (from / p * p + c) × (from / p * p + c ≤ 600)
    here_by p from c e small few =
        subst (λ p. Only q ◌⊕◌ ◌⊗◌ (digits q (k - 1) (from / p)) element v c → from ≤ from / p * p + c
        → FirstWith q ◌⊕◌ ◌⊗◌ k element v from (from / p * p + c) × (from / p * p + c ≤ 600))
        (sym e) (λ only low. (first_here from c only low, omega (arith, div-mul-le_self from q, only.0)))

    pub later_by : (p from c d : ℕ) → p ≡ q → q ≤ 16 → from ≤ 512 → Only q ◌⊕◌ ◌⊗◌ (digits q (k - 1) (from / p)) element v c → from / p * p + c < from
        → Only q ◌⊕◌ ◌⊗◌ (digits q (k - 1) (from / p + 1)) element v d
        → FirstWith q ◌⊕◌ ◌⊗◌ k element v from ((from / p + 1) * p + d) × ((from / p + 1) * p + d ≤ 600)
    later_by p from c d e small few =
        subst (λ p. Only q ◌⊕◌ ◌⊗◌ (digits q (k - 1) (from / p)) element v c → from / p * p + c < from
        → Only q ◌⊕◌ ◌⊗◌ (digits q (k - 1) (from / p + 1)) element v d
        → FirstWith q ◌⊕◌ ◌⊗◌ k element v from ((from / p + 1) * p + d) × ((from / p + 1) * p + d ≤ 600))
        (sym e) (λ only gone next.
        let later : (from / q + 1) * q ≡ from / q * q + q = add-mul (from / q) 1 q ∙ ap (λ y. from / q * q + y) (one-mul q) in
        (first_later from c d only gone next, omega (arith, div-mul-le_self from q, next.0)))

  -- the next block of a row, from the first number that has its value
  module _ (k n row : ℕ) (r1 : 1 ≤ row) (rq : row ≤ q * q) where
    abbrev blocks : ℕ
    blocks = poly_blocks q k n

    abbrev held : ℕ → Bool
    held = poly_holds q ◌⊕◌ ◌⊗◌ k n row

    held_next : (after first x : ℕ) → FirstWith q ◌⊕◌ ◌⊗◌ k ((row - 1) / q) ((row - 1) % q) after first → after ≤ x → x ≤ first → x < blocks → held (x + 1) ≡ eqb x first
    held_next after first x with' low high few =
        let back : x + 1 - 1 ≡ x = omega arith in
        holds_at k n row (x + 1) r1 rq (omega arith) (omega arith)
        ∙ ap (λ y. eqb (value ◌⊕◌ ◌⊗◌ (digits q k y) ((row - 1) / q)) ((row - 1) % q)) back ∙ with'.1 x low high

    none_before : (after first : ℕ) → FirstWith q ◌⊕◌ ◌⊗◌ k ((row - 1) / q) ((row - 1) % q) after first
        → (x : ℕ) → after + 1 ≤ x → x < first + 1 → x ≤ blocks → held x ≡ false
    none_before after first with' x low high few =
        let back : x - 1 + 1 ≡ x = omega arith in
        ap held (sym back) ∙ held_next after first (x - 1) with' (omega arith) (omega arith) (omega arith) ∙ ne_eqb (x - 1) first (λ e. omega arith)

    pub next_there : (after first : ℕ) → FirstWith q ◌⊕◌ ◌⊗◌ k ((row - 1) / q) ((row - 1) % q) after first → first < blocks
        → lowest held (after + 1) (blocks - after) ≡ Some (first + 1)
    next_there after first with' few =
        lowest_found held (blocks - after) (after + 1) (first + 1) (omega (arith, with'.0)) (omega (arith, with'.0))
        (held_next after first first with' with'.0 (omega arith) few ∙ eq-eqb first first refl)
        (λ x low high. none_before after first with' x low high (omega arith))

    pub next_nowhere : (after first : ℕ) → after < blocks → FirstWith q ◌⊕◌ ◌⊗◌ k ((row - 1) / q) ((row - 1) % q) after first → blocks ≤ first
        → lowest held (after + 1) (blocks - after) ≡ None
    next_nowhere after first inside with' past =
        lowest_none held (blocks - after) (after + 1) (λ x low high. none_before after first with' x low (omega arith) (omega arith))

  pub next_outside : (k n row after : ℕ) → (row ≡ 0) ⊎ (q * q < row) → lowest (poly_holds q ◌⊕◌ ◌⊗◌ k n row) (after + 1) (poly_blocks q k n - after) ≡ None
  next_outside k n row after out =
      lowest_none (poly_holds q ◌⊕◌ ◌⊗◌ k n row) (poly_blocks q k n - after) (after + 1)
      (λ x low high. bounded_row (poly_blocks q k n) (q * q) (poly_held q ◌⊕◌ ◌⊗◌ k) row x out)
