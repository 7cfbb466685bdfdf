-- The numbers modulo q are a field if each but 0 has a reciprocal, which is computed.
use Rattle.std.specs.Prelude.{◌≡◌, ℕ, ◌+◌, ◌-◌, ◌*◌, ◌/◌, ◌%◌, ◌<◌, ◌≤◌, Bool, true, false, ◌||◌, List, [], ◌∷◌, ◌==◌, nat_eq, refl}
use Rattle.std.proofs.Common.{sym, ap, ◌∙◌, inl, inr, add_comm, add_assoc, zero-add, mul_comm, mul_assoc, mul-add, mul_left_comm, one-mul, mod-lt, mod-eq_of_lt, arith}
use Rattle.std.proofs.Math.Nat.{mod_self, mod-add-mod, add-mod-mod, add-mod, div-add-mod, mul-add-mod_self_left}
use Rattle.std.specs.List.{AllByRecursion}
use Rattle.std.proofs.lemmas.Bool.{both_ways, or_cases, eqb-true}
use Rattle.families.specs.Numbers.{some, among}
use Rattle.families.specs.Field.{FieldLaws, mod_sum, mod_product, PrimeFields}
use Rattle.families.specs.Counting.{some_where}
use Rattle.families.specs.Every.{every, at_each}

mul_mod_mod : (a b q : ℕ) → a * (b % q) % q ≡ a * b % q
mul_mod_mod a b q =
    let whole : q * (a * (b / q)) + a * (b % q) ≡ a * b =
    ap (λ x. x + a * (b % q)) (mul_left_comm q a (b / q)) ∙ sym (mul-add a (q * (b / q)) (b % q)) ∙ ap (λ x. a * x) (div-add-mod b q)
    in
    sym (mul-add-mod_self_left q (a * (b / q)) (a * (b % q))) ∙ ap (λ x. x % q) whole

mod_mul_mod : (a b q : ℕ) → a % q * b % q ≡ a * b % q
mod_mul_mod a b q = ap (λ x. x % q) (mul_comm (a % q) b) ∙ mul_mod_mod b a q ∙ ap (λ x. x % q) (mul_comm b a)

-- each element but 0 has a reciprocal
abbrev reciprocals : ℕ → Bool
reciprocals q = every (λ a. (a == 0) || some (λ b. nat_eq (mod_product q a b) 1) q) q

modulo_field : (q : ℕ) → 2 ≤ q → reciprocals q ≡ true → FieldLaws q (mod_sum q) (mod_product q)
modulo_field q two tested =
    let pos : 0 < q = omega arith in
    record {
      nontrivial = two;
      sum_reduced = λ a b. add-mod a b q;
      product_reduced = λ a b. sym (mul_mod_mod (a % q) b q ∙ mod_mul_mod a b q);
      sum_below = λ a b. mod-lt (a + b) pos;
      product_below = λ a b. mod-lt (a * b) pos;
      sum_comm = λ a b. ap (λ x. x % q) (add_comm a b);
      product_comm = λ a b. ap (λ x. x % q) (mul_comm a b);
      sum_assoc = λ a b c. mod-add-mod (a + b) q c ∙ ap (λ x. x % q) (add_assoc a b c) ∙ sym (add-mod-mod a (b + c) q);
      product_assoc = λ a b c. mod_mul_mod (a * b) c q ∙ ap (λ x. x % q) (mul_assoc a b c) ∙ sym (mul_mod_mod a (b * c) q);
      distributes = λ a b c. mul_mod_mod a (b + c) q ∙ ap (λ x. x % q) (mul-add a b c) ∙ add-mod (a * b) (a * c) q;
      zero_neutral = λ a h. ap (λ x. x % q) (zero-add a) ∙ mod-eq_of_lt h;
      one_neutral = λ a h. ap (λ x. x % q) (one-mul a) ∙ mod-eq_of_lt h;
      negative = λ a h.
          let whole : a + (q - a) ≡ q = omega arith in
          ((q - a) % q, mod-lt (q - a) pos, add-mod-mod a (q - a) q ∙ ap (λ x. x % q) whole ∙ mod_self q);
      reciprocal = λ a h a1.
          elim (or_cases (a == 0) (some (λ b. nat_eq (mod_product q a b) 1) q) (at_each (λ x. (x == 0) || some (λ b. nat_eq (mod_product q x b) 1) q) q tested a h)) [
            | inl e ↦ let z = eqb-true a 0 e in absurd (omega arith)
            | inr found ↦
                let b = some_where (λ x. nat_eq (mod_product q a x) 1) q found in
                (b.0, b.1, eqb-true (mod_product q a b.0) 1 b.2)
          ];
    }

pub prime_fields : PrimeFields
prime_fields =
    (modulo_field 5 (omega arith) refl, (modulo_field 7 (omega arith) refl, (modulo_field 11 (omega arith) refl, (modulo_field 13 (omega arith) refl, tt))))

pub all_among : (P : ℕ → Type 0) (xs : List ℕ) → AllByRecursion P xs → (i : ℕ) → among i xs ≡ true → P i
all_among P [] h i e = absurd (both_ways false refl e)
all_among P (x ∷ xs) h i e =
    elim (or_cases (i == x) (among i xs) e) [
      | inl at ↦ rw (eqb-true i x at) h.0
      | inr later ↦ all_among P xs h.1 i later
    ]

-- the same for a number known by a test
pub prime_field : (q : ℕ) → among q (5 ∷ 7 ∷ 11 ∷ 13 ∷ []) ≡ true → FieldLaws q (mod_sum q) (mod_product q)
prime_field = all_among (λ q. FieldLaws q (mod_sum q) (mod_product q)) (5 ∷ 7 ∷ 11 ∷ 13 ∷ []) prime_fields
