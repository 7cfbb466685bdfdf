-- Families by number, and which one is chosen. Assumes nothing.
use Rattle.std.specs.Prelude.{◌≡◌, ℕ, ◌^◌, Bool, true, false, cond, not, ◌&&◌, ◌⊎◌, List, [], ◌∷◌, ◌++◌, is_some, Some, None, Option, Result, ◌==◌, ◌≢◌, nat_le}
use Rattle.std.specs.Option.{unwrap_or, option_map}
use Rattle.std.specs.List.{AllByRecursion}
use Rattle.answers.specs.declared.Refusal.{Refusal}
use Rattle.answers.specs.declared.Refusal.TheVariants.{BadBlockCount, NoSuchParameter}
use Rattle.answers.specs.Refusals.{unless}
use Rattle.families.specs.Numbers.{among}
use Rattle.families.specs.Shape.{Shape}
use Rattle.families.specs.Field.{orders, binaries, mod_sum, mod_product, binary_sum, binary_product, modulus}
use Rattle.families.specs.Halves.{halves_shape}
use Rattle.families.specs.Polynomial.{coefficient_counts, poly_strength, poly_shape}
use Rattle.families.specs.Making.{bad_count}

-- the degree of the modulus of a binary field
abbrev pub degree_of : ℕ → ℕ
degree_of q = cond (q == 8) 3 4

-- sum and product of the field of q elements
abbrev pub sum_of : ℕ → ℕ → ℕ → ℕ
sum_of q = cond (among q binaries) (binary_sum (degree_of q)) (mod_sum q)

abbrev pub product_of : ℕ → ℕ → ℕ → ℕ
product_of q = cond (among q binaries) (binary_product (degree_of q) (modulus (degree_of q))) (mod_product q)

abbrev pub numbered_shape : ℕ → ℕ → ℕ → Shape
numbered_shape q k n = poly_shape q (sum_of q) (product_of q) k n

-- the polynomial family of n blocks by q and k
abbrev pub numbered_answer : ℕ → ℕ → ℕ → Result Shape Refusal
numbered_answer q k n =
    unless
    ((not (among q orders), NoSuchParameter)
    ∷ ((not (among k coefficient_counts), NoSuchParameter)
    ∷ ((bad_count (q ^ k) n, BadBlockCount) ∷ [])))
    (numbered_shape q k n)

-- q and k on offer, by q and then k
abbrev pub pairs : List (ℕ × ℕ)
pairs =
    (5, 2) ∷ (5, 3) ∷ (5, 4) ∷ (7, 2) ∷ (7, 3) ∷ (7, 4) ∷ (8, 2) ∷ (8, 3) ∷ (8, 4)
    ∷ (11, 2) ∷ (11, 3) ∷ (11, 4) ∷ (13, 2) ∷ (13, 3) ∷ (13, 4) ∷ (16, 2) ∷ (16, 3) ∷ (16, 4) ∷ []

-- q and k are on offer; all of a list are
abbrev pub offered : ℕ × ℕ → Bool
offered p = among p.0 orders && among p.1 coefficient_counts

abbrev pub all_offered : List (ℕ × ℕ) → Bool
all_offered [] = true
all_offered (p ∷ ps) = offered p && all_offered ps

-- a pair of strength exactly d, with a polynomial for each of n blocks
abbrev pub fits : ℕ → ℕ → ℕ × ℕ → Bool
fits n d p = poly_strength p.0 p.1 == d && nat_le n (p.0 ^ p.1)

-- the first pair of a list that fits
unfoldable pub first_fit : ℕ → ℕ → List (ℕ × ℕ) → Option (ℕ × ℕ)
first_fit n d [] = None
first_fit n d (p ∷ ps) = cond (fits n d p) (Some p) (first_fit n d ps)

-- halves for one changed block, otherwise the first pair
abbrev pub chosen : ℕ → ℕ → Option Shape
chosen n d = cond (d == 1) (Some (halves_shape n)) (option_map (λ p. numbered_shape p.0 p.1 n) (first_fit n d pairs))

-- the family of n blocks and strength d; where none is chosen the second cause holds
abbrev pub choose_answer : ℕ → ℕ → Result Shape Refusal
choose_answer n d =
    unless
    ((bad_count 512 n, BadBlockCount)
    ∷ ((not (is_some (chosen n d)), NoSuchParameter) ∷ []))
    (unwrap_or (chosen n d) (halves_shape n))

-- a pair on offer fits, and every earlier one fails
pub record FirstFit (n d : ℕ) (p : ℕ × ℕ) : Type 0 where
  pub earlier : List (ℕ × ℕ)
  pub later : List (ℕ × ℕ)
  pub offered : pairs ≡ earlier ++ p ∷ later
  pub fails_earlier : AllByRecursion (λ o. fits n d o ≡ false) earlier
  pub fits_here : fits n d p ≡ true

-- the choice said without the call: which family it is, or that no pair fits
abbrev pub Chosen : ℕ → ℕ → Shape → Type 0
Chosen n d s = ((d ≡ 1) × (s ≡ halves_shape n)) ⊎ ((d ≢ 1) × (s ≡ numbered_shape s.q s.k n) × FirstFit n d (s.q, s.k))

abbrev pub NothingFits : ℕ → ℕ → Type 0
NothingFits n d = (d ≢ 1) × AllByRecursion (λ p. fits n d p ≡ false) pairs
