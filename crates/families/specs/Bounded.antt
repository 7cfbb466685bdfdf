-- A family with its bounds: still cover-free.
use Rattle.std.specs.Prelude.{◌≡◌, ℕ, ◌<◌, ◌≤◌, Bool, true, false, ◌&&◌, ◌⊎◌, List, [], ◌∷◌, nat_le}
use Rattle.std.proofs.Common.{ap, le_trans, inl, inr, arith}
use Rattle.std.proofs.lemmas.Bool.{cases_lt, and_from, and_right, and_parts, le-leb, leb-true}
use Rattle.std.proofs.lemmas.Bool.Decides.{nat_tests}
use Rattle.families.specs.Numbers.{within}
use Rattle.families.specs.Family.{bounded, BoundedInside, Beside, NoneIn, CoverFree}

within_true : (n i : ℕ) → 1 ≤ i → i ≤ n → within n i ≡ true
within_true n i low high = and_from (nat_le 1 i) (nat_le i n) (le-leb 1 i low) (le-leb i n high)

-- what it says that a number is from 1 to a count, or is not
pub within_from : (n i : ℕ) → within n i ≡ true → (1 ≤ i) × (i ≤ n)
within_from n i e =
    let both = and_parts (nat_le 1 i) (nat_le i n) e in
    (leb-true 1 i both.0, leb-true i n both.1)

pub within_not : (n i : ℕ) → within n i ≡ false → (i ≡ 0) ⊎ (n < i)
within_not n i e =
    elim (cases_lt n i) [
      | inl high ↦ inr high
      | inr low ↦ inl (grind (arith, nat_tests))
    ]

pub bounded_inside : BoundedInside
bounded_inside n t held i j e =
    let parts = and_parts (within t i && within n j) (held i j) e in
    let ranges = and_parts (within t i) (within n j) parts.0 in
    let row = within_from t i ranges.0 in
    let block = within_from n j ranges.1 in
    (row.0, row.1, block.0, block.1)

pub bounded_within : (n t : ℕ) (held : ℕ → ℕ → Bool) (i j : ℕ) → 1 ≤ i → i ≤ t → 1 ≤ j → j ≤ n → bounded n t held i j ≡ held i j
bounded_within n t held i j i1 it j1 jn = ap (λ b. b && held i j) (and_from (within t i) (within n j) (within_true t i i1 it) (within_true n j j1 jn))

-- no at row 0 and beyond row t, and at block 0 and beyond block n
pub bounded_row : (n t : ℕ) (held : ℕ → ℕ → Bool) (i j : ℕ) → (i ≡ 0) ⊎ (t < i) → bounded n t held i j ≡ false
bounded_row n t held i j out =
    let none : within t i ≡ false = grind (arith, nat_tests) in
    ap (λ b. b && within n j && held i j) none

pub bounded_block : (n t : ℕ) (held : ℕ → ℕ → Bool) (i j : ℕ) → (j ≡ 0) ⊎ (n < j) → bounded n t held i j ≡ false
bounded_block n t held i j out =
    let none : within n j ≡ false = grind (arith, nat_tests) in
    ap (λ b. b && held i j) (and_right (within t i) (within n j) none)

none_bounded : (n t : ℕ) (held : ℕ → ℕ → Bool) (i : ℕ) (ms : List ℕ) → NoneIn held i ms → NoneIn (bounded n t held) i ms
none_bounded n t held i [] h = tt
none_bounded n t held i (m ∷ ms) h =
    (and_right (within t i && within n m) (held i m) h.0, none_bounded n t held i ms h.1)

pub cover_bounded : (n t d : ℕ) (held : ℕ → ℕ → Bool) → CoverFree n t d held → CoverFree n t d (bounded n t held)
cover_bounded n t d held law = record {
  some_row = λ j j1 jn others few beside.
      let row = law.some_row j j1 jn others few beside in
      let i = row.0 in (
        i,
        (
          row.1.0,
          row.1.1,
          and_from (within t i && within n j) (held i j)
              (and_from (within t i) (within n j) (within_true t i row.1.0 row.1.1) (within_true n j j1 jn)) row.1.2,
          none_bounded n t held i others row.1.3,
        ),
      );
}

beside_fewer : (n m j : ℕ) (others : List ℕ) → n ≤ m → Beside n j others → Beside m j others
beside_fewer n m j [] h b = tt
beside_fewer n m j (x ∷ xs) h b = ((b.0.0, le_trans b.0.1 h, b.0.2), beside_fewer n m j xs h b.1)

-- the first n blocks alone
pub cover_fewer : (n m t d : ℕ) (held : ℕ → ℕ → Bool) → n ≤ m → CoverFree m t d held → CoverFree n t d held
cover_fewer n m t d held h law = record {
  some_row = λ j j1 jn others few beside. law.some_row j j1 (le_trans jn h) others few (beside_fewer n m j others h beside);
}
