-- The fields of 8 and 16 elements, by the test over their tables.
use Rattle.std.specs.Prelude.{◌≡◌, ℕ, ◌%◌, ◌^◌, ◌<◌, ◌≤◌, true, List, [], ◌∷◌, bit_xor, nat_eq, slice_index, slice_index_or, refl}
use Rattle.std.proofs.Common.{sym, ap₂, arith}
use Rattle.std.proofs.Math.Nat.{mod-mod}
use Rattle.std.proofs.lemmas.Bool.{eqb-true}
use Rattle.families.specs.Numbers.{among}
use Rattle.families.specs.Every.{every, at_each}
use Rattle.families.specs.Primes.{all_among}
use Rattle.families.specs.Field.{FieldLaws, bits_times, bits_rem, binary_sum, binary_product, modulus, BinaryFields}
use Rattle.families.specs.Tested.{field_test, tested_laws}

reduced : (f : ℕ → ℕ → ℕ) (q a b : ℕ) → f (a % q) (b % q) ≡ f (a % q % q) (b % q % q)
reduced f q a b = ap₂ f (sym (mod-mod a q)) (sym (mod-mod b q))

binary_laws : (e m : ℕ) → 2 ≤ 2 ^ e → field_test (2 ^ e) (binary_sum e) (binary_product e m) ≡ true → FieldLaws (2 ^ e) (binary_sum e) (binary_product e m)
binary_laws e m two tested =
    tested_laws (2 ^ e) (binary_sum e) (binary_product e m) two tested
    (reduced bit_xor (2 ^ e)) (reduced (λ a b. bits_rem e m e (bits_times e a b)) (2 ^ e))

pub binary_fields : BinaryFields
binary_fields = (binary_laws 3 0b1011 (omega arith) refl, (binary_laws 4 0b10011 (omega arith) refl, tt))

-- the same for a degree known by a test
pub binary_field : (e : ℕ) → among e (3 ∷ (4 ∷ [])) ≡ true → FieldLaws (2 ^ e) (binary_sum e) (binary_product e (modulus e))
binary_field = all_among (λ e. FieldLaws (2 ^ e) (binary_sum e) (binary_product e (modulus e))) (3 ∷ (4 ∷ [])) binary_fields

-- a table by one test over all its places
pub table_at : (table : List (List ℕ)) (f : ℕ → ℕ → ℕ) (q : ℕ) → every (λ x. every (λ y. nat_eq (slice_index (slice_index_or table x []) y) (f x y)) q) q ≡ true
    → (x y : ℕ) → x < q → y < q → slice_index (slice_index_or table x []) y ≡ f x y
table_at table f q tested x y hx hy =
    eqb-true (slice_index (slice_index_or table x []) y) (f x y)
    (at_each (λ b. nat_eq (slice_index (slice_index_or table x []) b) (f x b)) q (at_each (λ a. every (λ b. nat_eq (slice_index (slice_index_or table a []) b) (f a b)) q) q tested x hx) y hy)
