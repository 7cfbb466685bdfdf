-- Numbers in the order of their rank among those with half of their bits one.
use Rattle.std.proofs.Common.{◌≡◌, ℕ, zero, suc, ◌+◌, ◌-◌, ◌/◌, ◌%◌, ◌^◌, ◌<◌, ◌≤◌, min, Bool, true, cond, eqb, leb, ltb, ◌&&◌, List, [], ◌∷◌, length, get_or, sym, refl, ap, ◌∙◌, ap₂, inl, inr, le_trans, div-one, arith}
use lib.Count.{ones, ones_step}
use Rattle.std.proofs.lemmas.Bool.{cases_Bool, and_parts, eqb-true, eqb-false, cond-true, cond-false, le-leb, leb-true, lt-leb}
use Rattle.std.specs.List.Sorted.{IsPartitionedBy}
use Rattle.std.proofs.lemmas.List.Sorted.{IsPartitionedBy-ltb}
use Rattle.families.specs.Numbers.{count}
use Rattle.families.specs.Halves.{bit, half_ones, halves_held, limits, first_limit, Ranked}
use Rattle.families.specs.HalvesLaw.{bit_next, held, not_held}

-- the first number counted apart
count_first : (f : ℕ → Bool) (n : ℕ) → count f (suc n) ≡ cond (f 0) 1 0 + count (λ i. f (suc i)) n
count_first f zero = refl
count_first f (suc n) =
    let ih = count_first f n in
    let a = cond (f (suc n)) 1 0 in
    let b = cond (f 0) 1 0 in
    let later = count (λ i. f (suc i)) n in
    let same : a + count f (suc n) ≡ a + (b + later) = ap (λ x. a + x) ih in
    same ∙ omega arith

count_alike : (f g : ℕ → Bool) (n : ℕ) → ((i : ℕ) → f i ≡ g i) → count f n ≡ count g n
count_alike f g zero e = refl
count_alike f g (suc n) e = ap₂ (λ b x. cond b 1 0 + x) (e n) (count_alike f g n e)

low_bit : (v : ℕ) → cond (bit v 0) 1 0 ≡ v % 2
low_bit v =
    let at : bit v 0 ≡ eqb (v % 2) 1 = ap (λ x. eqb (x % 2) 1) (div-one v) in
    elim (cases_Bool (eqb (v % 2) 1)) [
      | inl one ↦ ap (λ b. cond b 1 0) (at ∙ one) ∙ sym (eqb-true (v % 2) 1 one)
      | inr off ↦ ap (λ b. cond b 1 0) (at ∙ off) ∙ omega (arith, eqb-false (v % 2) 1 off)
    ]

-- a number's ones are those of its bits
pub ones_counted : (t v : ℕ) → v < 2 ^ t → count (bit v) t ≡ ones v
unfolding ones
ones_counted zero v h = let none : v ≡ 0 = omega arith in ap ones (sym none)
ones_counted (suc t) v h =
    count_first (bit v) t
    ∙ ap₂ (λ a b. a + b) (low_bit v) (count_alike (λ i. bit v (suc i)) (bit (v / 2)) t (λ i. sym (bit_next v i)) ∙ ones_counted t (v / 2) (omega arith))
    ∙ sym (ones_step v)

-- a block's rows are the ones of its number
pub ranked_bit : (t n : ℕ) (words : List ℕ) → 2 ≤ t → Ranked t n words → (row block : ℕ) → 1 ≤ row → 1 ≤ block → block ≤ n
    → bit (get_or words (block - 1) 0) (row - 1) ≡ halves_held t row block
ranked_bit t n words two ranked row block r1 b1 bn =
    let v = get_or words (block - 1) 0 in
    let good = ranked (block - 1) (omega arith) in
    let parts = and_parts (half_ones t v) (eqb (count (half_ones t) v) (block - 1 + 1 - 1)) good.1 in
    let place : block - 1 + 1 - 1 ≡ block - 1 = omega arith in
    let rank : count (half_ones t) v ≡ block - 1 = eqb-true (count (half_ones t) v) (block - 1 + 1 - 1) parts.1 ∙ place in
    let at : row - 1 + 1 ≡ row = omega arith in
    elim (cases_Bool (bit v (row - 1))) [
      | inl one ↦ one ∙ sym (ap (λ i. halves_held t i block) (sym at) ∙ held t two block v (row - 1) good.0 parts.0 rank one)
      | inr off ↦ off ∙ sym (ap (λ i. halves_held t i block) (sym at) ∙ not_held t two block v (row - 1) parts.0 rank off)
    ]

-- the first limit that is high enough, by its place
pub first_limit_at : (ls : List ℕ) (t n i : ℕ) → i < length ls → ((k : ℕ) → k < i → get_or ls k 0 < n) → n ≤ get_or ls i 0 → first_limit ls t n ≡ t + i
first_limit_at [] t n i h low here = absurd (omega arith)
first_limit_at (l ∷ ls) t n zero h low here = cond-true _ _ _ (le-leb n l here) ∙ omega arith
first_limit_at (l ∷ ls) t n (suc i) h low here =
    cond-false _ _ _ (lt-leb n l (low 0 (omega arith)))
    ∙ first_limit_at ls (suc t) n i (omega arith) (λ k lt. low (suc k) (omega arith)) here ∙ omega arith

-- numbers that do not fall, from one on
abbrev climbs : ℕ → List ℕ → Bool
climbs low [] = true
climbs low (x ∷ xs) = leb low x && climbs x xs

above : (low : ℕ) (ls : List ℕ) → climbs low ls ≡ true → (j d : ℕ) → j < length ls → low ≤ get_or ls j d
above low [] e j d h = absurd (omega arith)
above low (x ∷ xs) e zero d h = leb-true low x (and_parts (leb low x) (climbs x xs) e).0
above low (x ∷ xs) e (suc j) d h =
    let parts = and_parts (leb low x) (climbs x xs) e in
    le_trans (leb-true low x parts.0) (above x xs parts.1 j d (omega arith))

climbing : (low : ℕ) (ls : List ℕ) → climbs low ls ≡ true → (i j d : ℕ) → i ≤ j → j < length ls → get_or ls i d ≤ get_or ls j d
climbing low [] e i j d le h = absurd (omega arith)
climbing low (x ∷ xs) e zero zero d le h = omega arith
climbing low (x ∷ xs) e zero (suc j) d le h = above x xs (and_parts (leb low x) (climbs x xs) e).1 j d (omega arith)
climbing low (x ∷ xs) e (suc i) zero d le h = absurd (omega arith)
climbing low (x ∷ xs) e (suc i) (suc j) d le h = climbing x xs (and_parts (leb low x) (climbs x xs) e).1 i j d (omega arith) (omega arith)

-- the limits rise, so those below a number stand first
pub limits_parted : (n : ℕ) → IsPartitionedBy (λ limit. ltb limit n) limits
limits_parted n = IsPartitionedBy-ltb (λ limit. limit) limits n (climbing 0 limits refl)

-- The loop over all numbers: so many are found, and there is room for no more than 512.
pub record Found (t word : ℕ) (words : List ℕ) (found : ℕ) : Type 0 where
  pub many : found ≡ min 512 (count (half_ones t) word)
  pub room : length words ≡ 512
  pub ranked : Ranked t found words
