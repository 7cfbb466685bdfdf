-- The polynomial families by q are those over the field of q elements.
use Rattle.std.specs.Prelude.{◌≡◌, ℕ, ◌^◌, Bool, true, false, not, List, [], ◌∷◌, Ok, Result, refl}
use Rattle.std.proofs.Common.{subst, arith}
use Rattle.answers.specs.declared.Refusal.{Refusal}
use Rattle.answers.specs.declared.Refusal.TheVariants.{NoSuchParameter}
use Rattle.answers.specs.Refusals.{unless}
use Rattle.families.specs.Numbers.{among}
use Rattle.families.specs.Field.{primes, orders, field_answer, mod_sum, mod_product, binary_sum, binary_product, modulus}
use Rattle.families.specs.Making.{poly_answer}
use Rattle.families.specs.Choice.{numbered_answer}
use Rattle.families.specs.Primes.{all_among}

prime_numbered : (q : ℕ) → among q primes ≡ true → (k n : ℕ) → poly_answer q (mod_sum q) (mod_product q) k n ≡ numbered_answer q k n
prime_numbered =
    all_among (λ q. (k n : ℕ) → poly_answer q (mod_sum q) (mod_product q) k n ≡ numbered_answer q k n) primes
    ((λ k n. refl), ((λ k n. refl), ((λ k n. refl), ((λ k n. refl), tt))))

pub prime_by : (p q : ℕ) → among p primes ≡ true → p ≡ q → (k n : ℕ) → poly_answer p (mod_sum p) (mod_product p) k n ≡ numbered_answer q k n
prime_by p q prime is k n = subst (λ x. poly_answer p (mod_sum p) (mod_product p) k n ≡ numbered_answer x k n) is (prime_numbered p prime k n)

degree_numbered : (e : ℕ) → among e (3 ∷ (4 ∷ [])) ≡ true → (k n : ℕ) → poly_answer (2 ^ e) (binary_sum e) (binary_product e (modulus e)) k n ≡ numbered_answer (2 ^ e) k n
degree_numbered =
    all_among (λ e. (k n : ℕ) → poly_answer (2 ^ e) (binary_sum e) (binary_product e (modulus e)) k n ≡ numbered_answer (2 ^ e) k n) (3 ∷ (4 ∷ []))
    ((λ k n. refl), ((λ k n. refl), tt))

pub binary_numbered : (e q : ℕ) → among e (3 ∷ (4 ∷ [])) ≡ true → 2 ^ e ≡ q → (k n : ℕ)
    → poly_answer (2 ^ e) (binary_sum e) (binary_product e (modulus e)) k n ≡ numbered_answer q k n
binary_numbered e q known is k n =
    subst (λ x. poly_answer (2 ^ e) (binary_sum e) (binary_product e (modulus e)) k n ≡ numbered_answer x k n) is (degree_numbered e known k n)

-- a field that was made has q elements
pub made_field : (offered : List ℕ) (q x : ℕ) → ◌≡◌ {A = Result ℕ Refusal} (Ok x) (field_answer offered q) → x ≡ q
made_field offered q x made = go (among q offered) made
  where
    go : (b : Bool) → ◌≡◌ {A = Result ℕ Refusal} (Ok x) (unless ((not b, NoSuchParameter) ∷ []) q) → x ≡ q
    go true e = cc
    go false e = let z : ◌≡◌ {A = ℕ} 0 1 = cc in absurd (omega arith)

pub prime_offered : (q : ℕ) → among q primes ≡ true → among q orders ≡ true
prime_offered = all_among (λ q. among q orders ≡ true) primes (refl, (refl, (refl, (refl, tt))))

pub degree_offered : (e : ℕ) → among e (3 ∷ (4 ∷ [])) ≡ true → among (2 ^ e) orders ≡ true
degree_offered = all_among (λ e. among (2 ^ e) orders ≡ true) (3 ∷ (4 ∷ [])) (refl, (refl, tt))
