-- A field on the numbers below q. The arguments of sum and product are reduced by q.
use Rattle.std.specs.Prelude.{◌≡◌, ℕ, zero, suc, ◌+◌, ◌*◌, ◌/◌, ◌%◌, ◌^◌, ◌<◌, ◌≤◌, cond, not, List, [], ◌∷◌, ◌++◌, map, Result, ◌==◌, bit_xor}
use Rattle.std.specs.List.{AllByRecursion}
use Rattle.answers.specs.declared.Refusal.{Refusal}
use Rattle.answers.specs.declared.Refusal.TheVariants.{NoSuchParameter}
use Rattle.answers.specs.Refusals.{unless}
use Rattle.families.specs.Numbers.{among}

-- how many elements the fields on offer have: the prime ones, the binary ones, and all
abbrev pub primes : List ℕ
primes = 5 ∷ 7 ∷ 11 ∷ 13 ∷ []

abbrev pub binaries : List ℕ
binaries = 8 ∷ 16 ∷ []

abbrev pub orders : List ℕ
orders = 5 ∷ 7 ∷ 8 ∷ 11 ∷ 13 ∷ 16 ∷ []

-- the prime or binary field of q elements, by how many it has
abbrev pub field_answer : List ℕ → ℕ → Result ℕ Refusal
field_answer offered q = unless ((not (among q offered), NoSuchParameter) ∷ []) q

abbrev pub below : ℕ → List ℕ
below zero = []
below (suc n) = below n ++ n ∷ []

pub record FieldLaws (q : ℕ) (sum product : ℕ → ℕ → ℕ) : Type 0 where
  pub nontrivial : 2 ≤ q
  pub sum_reduced : (a b : ℕ) → sum a b ≡ sum (a % q) (b % q)
  pub product_reduced : (a b : ℕ) → product a b ≡ product (a % q) (b % q)
  pub sum_below : (a b : ℕ) → sum a b < q
  pub product_below : (a b : ℕ) → product a b < q
  pub sum_comm : (a b : ℕ) → sum a b ≡ sum b a
  pub product_comm : (a b : ℕ) → product a b ≡ product b a
  pub sum_assoc : (a b c : ℕ) → sum (sum a b) c ≡ sum a (sum b c)
  pub product_assoc : (a b c : ℕ) → product (product a b) c ≡ product a (product b c)
  pub distributes : (a b c : ℕ) → product a (sum b c) ≡ sum (product a b) (product a c)
  pub zero_neutral : (a : ℕ) → a < q → sum 0 a ≡ a
  pub one_neutral : (a : ℕ) → a < q → product 1 a ≡ a
  pub negative : (a : ℕ) → a < q → (b : ℕ) × (b < q) × (sum a b ≡ 0)
  pub reciprocal : (a : ℕ) → a < q → 1 ≤ a → (b : ℕ) × (b < q) × (product a b ≡ 1)

-- Prime fields: sum and product modulo q.
abbrev pub mod_sum : ℕ → ℕ → ℕ → ℕ
mod_sum q a b = (a + b) % q

abbrev pub mod_product : ℕ → ℕ → ℕ → ℕ
mod_product q a b = (a * b) % q

abbrev pub PrimeFields : Type 0
PrimeFields = AllByRecursion (λ q. FieldLaws q (mod_sum q) (mod_product q)) (5 ∷ 7 ∷ 11 ∷ 13 ∷ [])

-- Binary fields: bit i of a number is the coefficient of x^i. The product of a and b, by the k lowest bits of b
abbrev pub bits_times : ℕ → ℕ → ℕ → ℕ
bits_times zero a b = 0
bits_times (suc k) a b = bit_xor (b % 2 * a) (2 * bits_times k a (b / 2))

-- the remainder of v by m, of degree e, where v has a degree below e + k
abbrev pub bits_rem : ℕ → ℕ → ℕ → ℕ → ℕ
bits_rem e m zero v = v
bits_rem e m (suc k) v = bits_rem e m k (bit_xor v (v / 2 ^ (e + k) % 2 * (m * 2 ^ k)))

abbrev pub binary_sum : ℕ → ℕ → ℕ → ℕ
binary_sum e a b = bit_xor (a % 2 ^ e) (b % 2 ^ e)

abbrev pub binary_product : ℕ → ℕ → ℕ → ℕ → ℕ
binary_product e m a b = bits_rem e m e (bits_times e (a % 2 ^ e) (b % 2 ^ e))

-- all values at numbers below q
abbrev pub tabled : (ℕ → ℕ → ℕ) → ℕ → List (List ℕ)
tabled f q = map (λ x. map (f x) (below q)) (below q)

-- the modulus of a degree
abbrev pub modulus : ℕ → ℕ
modulus e = cond (e == 3) 0b1011 0b10011

-- of both degrees
abbrev pub BinaryFields : Type 0
BinaryFields = AllByRecursion (λ e. FieldLaws (2 ^ e) (binary_sum e) (binary_product e (modulus e))) (3 ∷ 4 ∷ [])
