-- What the calls that make a family answer: what the family answers, or why there is none. Assumes nothing.
use Rattle.std.specs.Prelude.{ℕ, ◌^◌, Bool, not, ◌||◌, [], ◌∷◌, Result, ◌==◌, nat_lt}
use Rattle.answers.specs.declared.Refusal.{Refusal}
use Rattle.answers.specs.declared.Refusal.TheVariants.{BadBlockCount, NoSuchParameter}
use Rattle.answers.specs.Refusals.{unless}
use Rattle.families.specs.Numbers.{among}
use Rattle.families.specs.Shape.{Shape}
use Rattle.families.specs.Single.{single_shape}
use Rattle.families.specs.Halves.{halves_shape}
use Rattle.families.specs.Plane.{plane_shape}
use Rattle.families.specs.Polynomial.{coefficient_counts, poly_shape}

-- n is no count of blocks of a kind that holds so many
abbrev pub no_count : ℕ → ℕ → Bool
no_count capacity n = n == 0 || nat_lt capacity n

-- a family of n blocks of a kind that holds so many
abbrev pub count_answer : ℕ → ℕ → Result ℕ Refusal
count_answer capacity n = unless ((no_count capacity n, BadBlockCount) ∷ []) n

-- n is no count of blocks of a sheet, or none of a kind that holds so many
abbrev pub bad_count : ℕ → ℕ → Bool
bad_count capacity n = n == 0 || (nat_lt 512 n || nat_lt capacity n)

abbrev pub single_answer : ℕ → Result Shape Refusal
single_answer n = unless ((bad_count 512 n, BadBlockCount) ∷ []) (single_shape n)

abbrev pub halves_answer : ℕ → Result Shape Refusal
halves_answer n = unless ((bad_count 924 n, BadBlockCount) ∷ []) (halves_shape n)

abbrev pub plane_answer : ℕ → Result Shape Refusal
plane_answer n = unless ((bad_count 12 n, BadBlockCount) ∷ []) (plane_shape n)

-- polynomials with k coefficients over a field of q elements
abbrev pub poly_answer : ℕ → (ℕ → ℕ → ℕ) → (ℕ → ℕ → ℕ) → ℕ → ℕ → Result Shape Refusal
poly_answer q sum product k n =
    unless
    ((not (among k coefficient_counts), NoSuchParameter)
    ∷ ((bad_count (q ^ k) n, BadBlockCount) ∷ []))
    (poly_shape q sum product k n)
