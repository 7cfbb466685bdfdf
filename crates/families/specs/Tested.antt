-- A field by one test over its whole table.
use Rattle.std.specs.Prelude.{◌≡◌, ℕ, ◌%◌, ◌<◌, ◌≤◌, Bool, true, ◌&&◌, ◌||◌, ltb, ◌==◌, nat_eq, nat_lt}
use Rattle.std.proofs.Common.{sym, ap, ap₂, ◌∙◌, inl, inr, mod-lt, arith}
use Rattle.std.proofs.Math.Nat.{mod-mod}
use Rattle.std.proofs.lemmas.Bool.{or_cases, and_parts, eqb-true, ltb-true}
use Rattle.families.specs.Numbers.{some}
use Rattle.families.specs.Field.{FieldLaws}
use Rattle.families.specs.Counting.{some_where}
use Rattle.families.specs.Every.{every, at_each}

module _ (q : ℕ) (sum product : ℕ → ℕ → ℕ) where
  abbrev test_one : ℕ → Bool
  test_one a = sum 0 a == a && product 1 a == a && some (λ b. nat_eq (sum a b) 0) q && (a == 0 || some (λ b. nat_eq (product a b) 1) q)

  abbrev test_two : ℕ → ℕ → Bool
  test_two a b = nat_lt (sum a b) q && nat_lt (product a b) q && sum a b == sum b a && product a b == product b a

  abbrev test_three : ℕ → ℕ → ℕ → Bool
  test_three a b c =
      (sum (sum a b) c == sum a (sum b c)) && product (product a b) c == product a (product b c)
      && product a (sum b c) == sum (product a b) (product a c)

  abbrev test_pair : ℕ → ℕ → Bool
  test_pair a b = test_two a b && every (test_three a b) q

  abbrev test_from : ℕ → Bool
  test_from a = test_one a && every (test_pair a) q

  -- the laws, at all elements
  abbrev pub field_test : Bool
  field_test = every test_from q

  -- The test gives the laws, where arguments are reduced.
  module _ (two : 2 ≤ q) (tested : field_test ≡ true)
      (sum_reduced : (a b : ℕ) → sum a b ≡ sum (a % q) (b % q)) (product_reduced : (a b : ℕ) → product a b ≡ product (a % q) (b % q)) where
    pos : 0 < q
    pos = omega arith

    -- either argument can be reduced alone
    right : (f : ℕ → ℕ → ℕ) → ((a b : ℕ) → f a b ≡ f (a % q) (b % q)) → (a b : ℕ) → f a b ≡ f a (b % q)
    right f r a b = r a b ∙ ap (f (a % q)) (sym (mod-mod b q)) ∙ sym (r a (b % q))

    left : (f : ℕ → ℕ → ℕ) → ((a b : ℕ) → f a b ≡ f (a % q) (b % q)) → (a b : ℕ) → f a b ≡ f (a % q) b
    left f r a b = r a b ∙ ap (λ x. f x (b % q)) (sym (mod-mod a q)) ∙ sym (r (a % q) b)

    at_one : (a : ℕ) → a < q → (test_one a ≡ true) × (every (test_pair a) q ≡ true)
    at_one a h = and_parts (test_one a) (every (test_pair a) q) (at_each test_from q tested a h)

    at_two : (a b : ℕ) → a < q → b < q → (test_two a b ≡ true) × (every (test_three a b) q ≡ true)
    at_two a b ha hb = and_parts (test_two a b) (every (test_three a b) q) (at_each (test_pair a) q (at_one a ha).1 b hb)

    ones : (a : ℕ) → a < q → (sum 0 a ≡ a) × (product 1 a ≡ a) × (some (λ b. nat_eq (sum a b) 0) q ≡ true) × ((a == 0 || some (λ b. nat_eq (product a b) 1) q) ≡ true)
    ones a h =
        let p = nat_eq (sum 0 a) a in
        let r = nat_eq (product 1 a) a in
        let s = some (λ b. nat_eq (sum a b) 0) q in
        let t = a == 0 || some (λ b. nat_eq (product a b) 1) q in
        let x = and_parts (p && r && s) t (at_one a h).0 in
        let y = and_parts (p && r) s x.0 in
        let z = and_parts p r y.0 in
        (eqb-true (sum 0 a) a z.0, eqb-true (product 1 a) a z.1, y.1, x.1)

    twos : (a b : ℕ) → a < q → b < q → (sum a b < q) × (product a b < q) × (sum a b ≡ sum b a) × (product a b ≡ product b a)
    twos a b ha hb =
        let p = ltb (sum a b) q in
        let r = ltb (product a b) q in
        let s = nat_eq (sum a b) (sum b a) in
        let t = nat_eq (product a b) (product b a) in
        let x = and_parts (p && r && s) t (at_two a b ha hb).0 in
        let y = and_parts (p && r) s x.0 in
        let z = and_parts p r y.0 in
        (ltb-true (sum a b) q z.0, ltb-true (product a b) q z.1, eqb-true (sum a b) (sum b a) y.1, eqb-true (product a b) (product b a) x.1)

    threes : (a b c : ℕ) → a < q → b < q → c < q
        → (sum (sum a b) c ≡ sum a (sum b c)) × (product (product a b) c ≡ product a (product b c)) × (product a (sum b c) ≡ sum (product a b) (product a c))
    threes a b c ha hb hc =
        let p = nat_eq (sum (sum a b) c) (sum a (sum b c)) in
        let r = nat_eq (product (product a b) c) (product a (product b c)) in
        let s = nat_eq (product a (sum b c)) (sum (product a b) (product a c)) in
        let x = and_parts (p && r) s (at_each (test_three a b) q (at_two a b ha hb).1 c hc) in
        let y = and_parts p r x.0 in (
          eqb-true (sum (sum a b) c) (sum a (sum b c)) y.0,
          eqb-true (product (product a b) c) (product a (product b c)) y.1,
          eqb-true (product a (sum b c)) (sum (product a b) (product a c)) x.1,
        )

    low : (a : ℕ) → a % q < q
    low a = mod-lt a pos

    assoc : (f : ℕ → ℕ → ℕ) → ((a b : ℕ) → f a b ≡ f (a % q) (b % q))
        → ((a b c : ℕ) → a < q → b < q → c < q → f (f a b) c ≡ f a (f b c)) → (a b c : ℕ) → f (f a b) c ≡ f a (f b c)
    assoc f r law a b c =
        ap (λ x. f x c) (r a b) ∙ right f r (f (a % q) (b % q)) c ∙ law (a % q) (b % q) (c % q) (low a) (low b) (low c)
        ∙ ap (f (a % q)) (sym (r b c)) ∙ sym (left f r a (f b c))

    pub tested_laws : FieldLaws q sum product
    tested_laws = record {
      nontrivial = two;
      sum_reduced = sum_reduced;
      product_reduced = product_reduced;
      sum_below = λ a b. rw (sum_reduced a b) (twos (a % q) (b % q) (low a) (low b)).0;
      product_below = λ a b. rw (product_reduced a b) (twos (a % q) (b % q) (low a) (low b)).1;
      sum_comm = λ a b. sum_reduced a b ∙ (twos (a % q) (b % q) (low a) (low b)).2 ∙ sym (sum_reduced b a);
      product_comm = λ a b. product_reduced a b ∙ (twos (a % q) (b % q) (low a) (low b)).3 ∙ sym (product_reduced b a);
      sum_assoc = assoc sum sum_reduced (λ a b c ha hb hc. (threes a b c ha hb hc).0);
      product_assoc = assoc product product_reduced (λ a b c ha hb hc. (threes a b c ha hb hc).1);
      distributes = λ a b c.
          left product product_reduced a (sum b c) ∙ ap (product (a % q)) (sum_reduced b c)
          ∙ (threes (a % q) (b % q) (c % q) (low a) (low b) (low c)).2
          ∙ ap₂ sum (sym (product_reduced a b)) (sym (product_reduced a c));
      zero_neutral = λ a h. (ones a h).0;
      one_neutral = λ a h. (ones a h).1;
      negative = λ a h.
          let b = some_where (λ x. nat_eq (sum a x) 0) q (ones a h).2 in
          (b.0, b.1, eqb-true (sum a b.0) 0 b.2);
      reciprocal = λ a h a1.
          elim (or_cases (a == 0) (some (λ b. nat_eq (product a b) 1) q) (ones a h).3) [
            | inl e ↦ let z = eqb-true a 0 e in absurd (omega arith)
            | inr found ↦
                let b = some_where (λ x. nat_eq (product a x) 1) q found in
                (b.0, b.1, eqb-true (product a b.0) 1 b.2)
          ];
    }
