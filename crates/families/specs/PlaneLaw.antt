-- Plane is cover-free, by one test over all blocks and pairs of others.
use Rattle.std.specs.Prelude.{◌≡◌, ℕ, ◌+◌, ◌-◌, ◌<◌, ◌≤◌, Bool, true, false, not, ◌&&◌, ◌||◌, List, [], ◌∷◌, length, ◌==◌, ◌≢◌, nat_eq, slice_index, slice_index_or, refl}
use Rattle.std.proofs.Common.{sym, ap, ◌∙◌, inl, inr, arith}
use Rattle.std.proofs.lemmas.Bool.{cases_eq, and_parts, or_cases, eqb-true, not-true}
use Rattle.families.specs.Numbers.{some, among}
use Rattle.families.specs.Family.{Beside, NoneIn}
use Rattle.families.specs.Plane.{lines, plane_held, PlaneCoverFree}
use Rattle.families.specs.Bounded.{cover_bounded, cover_fewer}
use Rattle.families.specs.Counting.{some_where}
use Rattle.families.specs.Every.{every, at_each}

-- row i + 1 holds block j + 1, but neither a + 1 nor b + 1
abbrev splits : ℕ → ℕ → ℕ → ℕ → Bool
splits j a b i = plane_held (i + 1) (j + 1) && not (plane_held (i + 1) (a + 1)) && not (plane_held (i + 1) (b + 1))

abbrev plane_test : ℕ → ℕ → ℕ → Bool
plane_test j a b = a == j || b == j || some (splits j a b) 9

-- the one test
plane_tested : every (λ j. every (λ a. every (λ b. plane_test j a b) 12) 12) 12 ≡ true
plane_tested = refl

shift : (f : ℕ → Bool) (x : ℕ) → 1 ≤ x → f (x - 1 + 1) ≡ f x
shift f x h = ap f (omega arith)

plane_two : (j a b : ℕ) → 1 ≤ j → j ≤ 12 → 1 ≤ a → a ≤ 12 → 1 ≤ b → b ≤ 12 → (a ≢ j) → (b ≢ j)
    → (i : ℕ) × (1 ≤ i) × (i ≤ 9) × (plane_held i j ≡ true) × (plane_held i a ≡ false) × (plane_held i b ≡ false)
plane_two j a b j1 jn a1 an b1 bn na nb =
    let f = λ (x : ℕ). every (λ y. every (λ z. plane_test x y z) 12) 12 in
    let g = λ (y : ℕ). every (λ z. plane_test (j - 1) y z) 12 in
    let passed : plane_test (j - 1) (a - 1) (b - 1) ≡ true =
    at_each (λ z. plane_test (j - 1) (a - 1) z) 12 (at_each g 12 (at_each f 12 plane_tested (j - 1) (omega arith)) (a - 1) (omega arith)) (b - 1) (omega arith)
    in
    elim (or_cases (a - 1 == j - 1 || b - 1 == j - 1) (some (splits (j - 1) (a - 1) (b - 1)) 9) passed) [
      | inl same ↦
          elim (or_cases (a - 1 == j - 1) (b - 1 == j - 1) same) [
            | inl e ↦ let at = eqb-true (a - 1) (j - 1) e in absurd (na (omega arith))
            | inr e ↦ let at = eqb-true (b - 1) (j - 1) e in absurd (nb (omega arith))
          ]
      | inr found ↦
          let row = some_where (splits (j - 1) (a - 1) (b - 1)) 9 found in
          let i = row.0 + 1 in
          let parts = and_parts (plane_held i (j - 1 + 1) && not (plane_held i (a - 1 + 1))) (not (plane_held i (b - 1 + 1))) row.2 in
          let first = and_parts (plane_held i (j - 1 + 1)) (not (plane_held i (a - 1 + 1))) parts.0 in (
            i,
            omega arith,
            omega (arith, row.1),
            sym (shift (plane_held i) j j1) ∙ first.0,
            sym (shift (plane_held i) a a1) ∙ not-true (plane_held i (a - 1 + 1)) first.1,
            sym (shift (plane_held i) b b1) ∙ not-true (plane_held i (b - 1 + 1)) parts.1,
          )
    ]

-- some block beside j
another : (j : ℕ) → (a : ℕ) × (1 ≤ a) × (a ≤ 12) × (a ≢ j)
another j = elim (cases_eq 1 j) [ inl e ↦ (2, omega arith, omega arith, omega arith) | inr e ↦ (1, omega arith, omega arith, e) ]

plane_row : (j : ℕ) → 1 ≤ j → j ≤ 12 → (others : List ℕ) → length others ≤ 2 → Beside 12 j others
    → (i : ℕ) × ((1 ≤ i) × (i ≤ 9) × (plane_held i j ≡ true) × NoneIn plane_held i others)
plane_row j j1 jn [] few b =
    let x = another j in
    let r = plane_two j x.0 x.0 j1 jn x.1 x.2 x.1 x.2 x.3 x.3 in
    (r.0, (r.1, r.2, r.3, tt))
plane_row j j1 jn (m ∷ []) few b =
    let r = plane_two j m m j1 jn b.0.0 b.0.1 b.0.0 b.0.1 b.0.2 b.0.2 in
    (r.0, (r.1, r.2, r.3, (r.4, tt)))
plane_row j j1 jn (m ∷ l ∷ []) few b =
    let r = plane_two j m l j1 jn b.0.0 b.0.1 b.1.0.0 b.1.0.1 b.0.2 b.1.0.2 in
    (r.0, (r.1, r.2, r.3, (r.4, (r.5, tt))))
plane_row j j1 jn (m ∷ l ∷ x ∷ xs) few b = absurd (omega arith)

pub plane_cover_free : PlaneCoverFree
plane_cover_free n h = cover_bounded n 9 2 plane_held (cover_fewer n 12 9 2 plane_held h (record { some_row = plane_row }))

or_false : (b : Bool) → (b || false) ≡ b
or_false true = refl
or_false false = refl

among_three : (r : ℕ) (xs : List ℕ) → length xs ≡ 3 → among r xs ≡ (r == slice_index xs 0 || (r == slice_index xs 1 || r == slice_index xs 2))
among_three r [] e = absurd (omega arith)
among_three r (a ∷ []) e = absurd (omega arith)
among_three r (a ∷ (b ∷ [])) e = absurd (omega arith)
among_three r (a ∷ (b ∷ (c ∷ []))) e = ap (λ v. (r == a) || (r == b || v)) (or_false (r == c))
among_three r (a ∷ (b ∷ (c ∷ (d ∷ ds)))) e = absurd (omega arith)

-- each line has three rows
pub on_line : (row i : ℕ) → i < 12 → among row (slice_index_or lines i []) ≡ (row == slice_index (slice_index_or lines i []) 0 || (row == slice_index (slice_index_or lines i []) 1 || row == slice_index (slice_index_or lines i []) 2))
on_line row i h = among_three row (slice_index_or lines i []) (eqb-true (length (slice_index_or lines i [])) 3 (at_each (λ x. nat_eq (length (slice_index_or lines x [])) 3) 12 refl i h))
