-- A polynomial with k coefficients, not all zero, has fewer than k roots; over any field.
use Rattle.std.specs.Prelude.{◌≡◌, ℕ, zero, suc, ◌<◌, ◌≤◌, Bool, true, ◌||◌, List, [], ◌∷◌, length, ◌==◌, ◌≢◌, nat_eq, refl}
use Rattle.std.proofs.Common.{sym, ap, ap₂, ◌∙◌, inl, inr, arith}
use Rattle.std.specs.List.{AllByRecursion}
use Rattle.std.proofs.lemmas.Bool.{cases_Bool, cases_lt, cases_eq, or_left, or_right, eqb-true, eqb-false, eq-eqb}
use Rattle.families.specs.Numbers.{count}
use Rattle.families.specs.Field.{FieldLaws}
use Rattle.families.specs.Polynomial.{value, RootCounting}
use Rattle.families.specs.Counting.{count_either, count_one, count_more, passes_somewhere}

module _ (q : ℕ) (◌⊕◌ ◌⊗◌ : ℕ → ℕ → ℕ) (F : FieldLaws q ◌⊕◌ ◌⊗◌) where
  infixl 65 ◌⊕◌
  infixl 70 ◌⊗◌
  sum_left : (a b c : ℕ) → a ⊕ (b ⊕ c) ≡ b ⊕ (a ⊕ c)
  sum_left a b c = sym (F.sum_assoc a b c) ∙ ap (λ x. x ⊕ c) (F.sum_comm a b) ∙ F.sum_assoc b a c

  product_left : (a b c : ℕ) → a ⊗ (b ⊗ c) ≡ b ⊗ (a ⊗ c)
  product_left a b c = sym (F.product_assoc a b c) ∙ ap (λ x. x ⊗ c) (F.product_comm a b) ∙ F.product_assoc b a c

  positive : 0 < q
  positive = omega (arith, F.nontrivial)

  pub sum_zero : (a : ℕ) → a < q → a ⊕ 0 ≡ a
  sum_zero a h = F.sum_comm a 0 ∙ F.zero_neutral a h

  -- e ⊕ b ≡ b only at zero
  sum_same : (e b : ℕ) → e < q → b < q → e ⊕ b ≡ b → e ≡ 0
  sum_same e b he hb h =
      let n = F.negative b hb in
      sym (sum_zero e he) ∙ ap (λ x. e ⊕ x) (sym n.2) ∙ sym (F.sum_assoc e b n.0) ∙ ap (λ x. x ⊕ n.0) h ∙ n.2

  product_zero : (a : ℕ) → a ⊗ 0 ≡ 0
  product_zero a =
      sum_same (a ⊗ 0) (a ⊗ 0) (F.product_below a 0) (F.product_below a 0)
      (sym (F.distributes a 0 0) ∙ ap (λ x. a ⊗ x) (F.zero_neutral 0 positive))

  -- a factor other than zero is left out
  product_cancel : (a b y : ℕ) → a < q → b < q → y < q → 1 ≤ y → a ⊗ y ≡ b ⊗ y → a ≡ b
  product_cancel a b y ha hb hy y1 h =
      let r = F.reciprocal y hy y1 in
      let back : (c : ℕ) → c < q → (c ⊗ y) ⊗ r.0 ≡ c =
      λ c hc. F.product_assoc c y r.0 ∙ ap (λ x. c ⊗ x) r.2 ∙ F.product_comm c 1 ∙ F.one_neutral c hc
      in
      sym (back a ha) ∙ ap (λ x. x ⊗ r.0) h ∙ back b hb

  pub value_below : (cs : List ℕ) (a : ℕ) → value ◌⊕◌ ◌⊗◌ cs a < q
  value_below [] a = positive
  value_below (c ∷ cs) a = F.sum_below c (a ⊗ value ◌⊕◌ ◌⊗◌ cs a)

  value_zero : (cs : List ℕ) (a : ℕ) → AllByRecursion (λ c. c ≡ 0) cs → value ◌⊕◌ ◌⊗◌ cs a ≡ 0
  value_zero [] a h = refl
  value_zero (c ∷ cs) a h =
      ap₂ ◌⊕◌ h.0 (ap (λ x. a ⊗ x) (value_zero cs a h.1) ∙ product_zero a) ∙ F.zero_neutral 0 positive

  head_zero : (c : ℕ) (cs : List ℕ) (r : ℕ) → c < q → AllByRecursion (λ d. d ≡ 0) cs → value ◌⊕◌ ◌⊗◌ (c ∷ cs) r ≡ 0 → c ≡ 0
  head_zero c cs r hc zeros h =
      sym (sum_zero c hc) ∙ ap (λ x. c ⊕ x) (sym (product_zero r) ∙ ap (λ x. r ⊗ x) (sym (value_zero cs r zeros))) ∙ h

  -- the coefficients of (p(x) − p(r)) / (x − r), for p with the coefficients c ∷ cs
  abbrev quotient : List ℕ → ℕ → List ℕ
  quotient [] r = []
  quotient (d ∷ ds) r = value ◌⊕◌ ◌⊗◌ (d ∷ ds) r ∷ quotient ds r

  quotient_length : (cs : List ℕ) (r : ℕ) → length (quotient cs r) ≡ length cs
  quotient_length [] r = refl
  quotient_length (c ∷ cs) r = ap suc (quotient_length cs r)

  quotient_below : (cs : List ℕ) (r : ℕ) → AllByRecursion (λ c. c < q) (quotient cs r)
  quotient_below [] r = tt
  quotient_below (c ∷ cs) r = (value_below (c ∷ cs) r, quotient_below cs r)

  quotient_zero : (cs : List ℕ) (r : ℕ) → AllByRecursion (λ c. c < q) cs → AllByRecursion (λ c. c ≡ 0) (quotient cs r) → AllByRecursion (λ c. c ≡ 0) cs
  quotient_zero [] r small h = tt
  quotient_zero (c ∷ cs) r small h =
      let zeros = quotient_zero cs r small.1 h.1 in
      (head_zero c cs r small.0 zeros h.0, zeros)

  regroup : (c x r v w s : ℕ) → (c ⊕ (x ⊗ v)) ⊕ (r ⊗ (w ⊕ (x ⊗ s))) ≡ (c ⊕ (r ⊗ w)) ⊕ (x ⊗ (v ⊕ (r ⊗ s)))
  regroup c x r v w s = simp (F.distributes, F.sum_assoc, sum_left, product_left)

  -- p(x) + r × quotient(x) = p(r) + x × quotient(x)
  divided : (c : ℕ) (cs : List ℕ) (x r : ℕ)
      → value ◌⊕◌ ◌⊗◌ (c ∷ cs) x ⊕ (r ⊗ value ◌⊕◌ ◌⊗◌ (quotient cs r) x) ≡ value ◌⊕◌ ◌⊗◌ (c ∷ cs) r ⊕ (x ⊗ value ◌⊕◌ ◌⊗◌ (quotient cs r) x)
  divided c [] x r = F.sum_assoc c (x ⊗ 0) (r ⊗ 0) ∙ ap (λ y. c ⊕ y) (F.sum_comm (x ⊗ 0) (r ⊗ 0)) ∙ sym (F.sum_assoc c (r ⊗ 0) (x ⊗ 0))
  divided c (d ∷ ds) x r =
      let v = value ◌⊕◌ ◌⊗◌ (d ∷ ds) x in
      let w = value ◌⊕◌ ◌⊗◌ (d ∷ ds) r in
      let s = value ◌⊕◌ ◌⊗◌ (quotient ds r) x in
      regroup c x r v w s ∙ ap (λ y. (c ⊕ (r ⊗ w)) ⊕ (x ⊗ y)) (divided d ds x r)

  -- another root of p is a root of the quotient
  root_left : (c : ℕ) (cs : List ℕ) (x r : ℕ) → x < q → r < q → (x ≢ r)
      → value ◌⊕◌ ◌⊗◌ (c ∷ cs) x ≡ 0 → value ◌⊕◌ ◌⊗◌ (c ∷ cs) r ≡ 0 → value ◌⊕◌ ◌⊗◌ (quotient cs r) x ≡ 0
  root_left c cs x r hx hr ne ex er =
      let s = value ◌⊕◌ ◌⊗◌ (quotient cs r) x in
      let same : r ⊗ s ≡ x ⊗ s =
      sym (F.zero_neutral (r ⊗ s) (F.product_below r s)) ∙ ap (λ y. y ⊕ (r ⊗ s)) (sym ex) ∙ divided c cs x r
      ∙ ap (λ y. y ⊕ (x ⊗ s)) er ∙ F.zero_neutral (x ⊗ s) (F.product_below x s)
      in
      elim (cases_eq s 0) [
        | inl e ↦ e
        | inr no_zero ↦ absurd (ne (sym (product_cancel r x s hr hx (value_below (quotient cs r) x) (omega arith) same)))
      ]

  -- as many roots as coefficients: all coefficients are zero
  pub all_zero : (k : ℕ) (cs : List ℕ) → length cs ≡ k → AllByRecursion (λ c. c < q) cs → k ≤ count (λ a. nat_eq (value ◌⊕◌ ◌⊗◌ cs a) 0) q → AllByRecursion (λ c. c ≡ 0) cs
  all_zero k [] len small many = tt
  all_zero zero (c ∷ cs) len small many = absurd (omega arith)
  all_zero (suc k) (c ∷ cs) len small many =
      let f : ℕ → Bool = λ a. nat_eq (value ◌⊕◌ ◌⊗◌ (c ∷ cs) a) 0 in
      let found = passes_somewhere f q (omega arith) in
      let r = found.0 in
      let root : value ◌⊕◌ ◌⊗◌ (c ∷ cs) r ≡ 0 = eqb-true (value ◌⊕◌ ◌⊗◌ (c ∷ cs) r) 0 found.2 in
      let g : ℕ → Bool = λ a. nat_eq (value ◌⊕◌ ◌⊗◌ (quotient cs r) a) 0 in
      let split : (a : ℕ) → a < q → f a ≡ true → (a == r || g a) ≡ true =
      λ a ha e. elim (cases_Bool (a == r)) [
        | inl at ↦ or_left (a == r) (g a) at
        | inr off ↦
            or_right (a == r) (g a)
            (eq-eqb (value ◌⊕◌ ◌⊗◌ (quotient cs r) a) 0
            (root_left c cs a r ha found.1 (eqb-false a r off) (eqb-true (value ◌⊕◌ ◌⊗◌ (c ∷ cs) a) 0 e) root))
      ]
      in
      let bound = count_either f (λ a. nat_eq a r) g q split in
      let one = count_one r q in
      let zeros = all_zero k (quotient cs r) (quotient_length cs r ∙ omega arith) (quotient_below cs r) (omega arith) in
      let rest = quotient_zero cs r small.1 zeros in
      (head_zero c cs r small.0 rest root, rest)

  -- e with e + d = c
  difference : (c d : ℕ) → c < q → d < q → (e : ℕ) × (e < q) × (e ⊕ d ≡ c)
  difference c d hc hd =
      let n = F.negative d hd in (
        c ⊕ n.0,
        F.sum_below c n.0,
        F.sum_assoc c n.0 d ∙ ap (λ x. c ⊕ x) (F.sum_comm n.0 d ∙ n.2) ∙ sum_zero c hc,
      )

  add_values : (e d x v w : ℕ) → (e ⊕ (x ⊗ v)) ⊕ (d ⊕ (x ⊗ w)) ≡ (e ⊕ d) ⊕ (x ⊗ (v ⊕ w))
  add_values e d x v w = simp (F.distributes, F.sum_assoc, sum_left)

  -- the polynomial that is the difference of two
  differences : (k : ℕ) (cs ds : List ℕ) → length cs ≡ k → length ds ≡ k → AllByRecursion (λ c. c < q) cs → AllByRecursion (λ d. d < q) ds
      → (es : List ℕ) × (length es ≡ k) × AllByRecursion (λ e. e < q) es
      × ((x : ℕ) → value ◌⊕◌ ◌⊗◌ es x ⊕ value ◌⊕◌ ◌⊗◌ ds x ≡ value ◌⊕◌ ◌⊗◌ cs x)
      × (AllByRecursion (λ e. e ≡ 0) es → cs ≡ ds)
  differences k [] [] lc ld sc sd = ([], lc, tt, (λ x. F.zero_neutral 0 positive), (λ z. refl))
  differences k [] (d ∷ ds) lc ld sc sd = absurd (omega arith)
  differences k (c ∷ cs) [] lc ld sc sd = absurd (omega arith)
  differences zero (c ∷ cs) (d ∷ ds) lc ld sc sd = absurd (omega arith)
  differences (suc k) (c ∷ cs) (d ∷ ds) lc ld sc sd =
      let e = difference c d sc.0 sd.0 in
      let r = differences k cs ds (omega arith) (omega arith) sc.1 sd.1 in (
        e.0 ∷ r.0,
        ap suc r.1,
        (e.1, r.2),
        (λ x. add_values e.0 d x (value ◌⊕◌ ◌⊗◌ r.0 x) (value ◌⊕◌ ◌⊗◌ ds x)
            ∙ ap₂ ◌⊕◌ e.2 (ap (λ y. x ⊗ y) (r.3 x))),
        (λ z. ap₂ ◌∷◌ (sym e.2 ∙ ap (λ y. y ⊕ d) z.0 ∙ F.zero_neutral d sd.0) (r.4 z.1)),
      )

  -- two polynomials that differ agree at fewer elements than they have coefficients
  pub agree_few : (k : ℕ) (cs ds : List ℕ) → length cs ≡ k → length ds ≡ k → AllByRecursion (λ c. c < q) cs → AllByRecursion (λ d. d < q) ds → (cs ≢ ds)
      → count (λ a. nat_eq (value ◌⊕◌ ◌⊗◌ cs a) (value ◌⊕◌ ◌⊗◌ ds a)) q < k
  agree_few k cs ds lc ld sc sd differ =
      let f : ℕ → Bool = λ a. nat_eq (value ◌⊕◌ ◌⊗◌ cs a) (value ◌⊕◌ ◌⊗◌ ds a) in
      elim (cases_lt (count f q) k) [
        | inl few ↦ few
        | inr many ↦
            let r = differences k cs ds lc ld sc sd in
            let es = r.0 in
            let more = count_more f (λ a. nat_eq (value ◌⊕◌ ◌⊗◌ es a) 0) q
            (λ a ha h. eq-eqb (value ◌⊕◌ ◌⊗◌ es a) 0
            (sum_same (value ◌⊕◌ ◌⊗◌ es a) (value ◌⊕◌ ◌⊗◌ ds a) (value_below es a) (value_below ds a)
            (r.3 a ∙ eqb-true (value ◌⊕◌ ◌⊗◌ cs a) (value ◌⊕◌ ◌⊗◌ ds a) h)))
            in
            absurd (differ (r.4 (all_zero k es r.1 r.2 (omega arith))))
      ]

pub root_counting : RootCounting
root_counting q sum product F cs small not-zero =
    elim (cases_lt (count (λ a. nat_eq (value sum product cs a) 0) q) (length cs)) [
      | inl few ↦ few
      | inr many ↦ absurd (not-zero (all_zero q sum product F (length cs) cs refl small many))
    ]
