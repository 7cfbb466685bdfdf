-- The first pair that fits.
use Rattle.std.proofs.Common.{◌≡◌, ℕ, zero, suc, ◌+◌, ◌^◌, ◌<◌, ◌≤◌, Bool, true, false, not, eqb, leb, List, [], ◌∷◌, ◌++◌, length, get_or, drop, is_some, Some, None, Ok, Err, Option, Result, unwrap_or, sym, refl, ap, ◌∙◌, subst, inl, inr, append_assoc, arith}
use Rattle.std.specs.List.{AllByRecursion}
use Rattle.std.proofs.ByRecursion.{All-append}
use Rattle.std.proofs.lemmas.Bool.{cases_Bool, cond-true, cond-false, and_parts, leb-true, ne_eqb}
use Rattle.std.proofs.lemmas.Bool.Decides.{nat_tests}
use Rattle.families.specs.Numbers.{among}
use Rattle.families.specs.Field.{orders}
use Rattle.families.specs.Polynomial.{coefficient_counts, poly_strength}
use Rattle.std.specs.Option.{option_map}
use Rattle.std.specs.Result as results
use Rattle.answers.specs.declared.Refusal.{Refusal}
use Rattle.answers.specs.declared.Refusal.TheVariants.{BadBlockCount, NoSuchParameter}
use Rattle.answers.specs.Refusals.{unless}
use Rattle.families.specs.Shape.{Shape}
use Rattle.families.specs.Halves.{halves_shape}
use Rattle.families.specs.Making.{no_count, count_answer, bad_count}
use Rattle.families.specs.Choice.{numbered_shape, numbered_answer, pairs, offered, all_offered, fits, first_fit, chosen, choose_answer, FirstFit, NothingFits}
use Rattle.families.specs.Lawful.{offered_range, degree_range}

-- a count that was made is the number that it was made of
pub counted : (most n x : ℕ) → ◌≡◌ {A = Result ℕ Refusal} (Ok x) (count_answer most n) → x ≡ n
counted most n x made = go (no_count most n) made
  where
    go : (b : Bool) → ◌≡◌ {A = Result ℕ Refusal} (Ok x) (unless ((b, BadBlockCount) ∷ []) n) → x ≡ n
    go false e = cc
    go true e = let z : ◌≡◌ {A = ℕ} 0 1 = cc in absurd (omega arith)

abbrev pub Pair : Type 0
Pair = ℕ × ℕ

-- the pairs from the i-th on, of which the first is looked at
pub fit_here : (n d i : ℕ) (ps : List Pair) → i < length ps → true ≡ fits n d (get_or ps i (0, 0)) → Some (get_or ps i (0, 0)) ≡ first_fit n d (drop i ps)
unfolding first_fit
fit_here n d i [] h e = absurd (omega arith)
fit_here n d zero (p ∷ ps) h e = sym (cond-true _ _ _ (sym e))
fit_here n d (suc i) (p ∷ ps) h e = fit_here n d i ps (omega arith) e

pub fit_on : (n d i : ℕ) (ps : List Pair) → i < length ps → false ≡ fits n d (get_or ps i (0, 0)) → first_fit n d (drop (i + 1) ps) ≡ first_fit n d (drop i ps)
unfolding first_fit
fit_on n d i [] h e = absurd (omega arith)
fit_on n d zero (p ∷ ps) h e = sym (cond-false _ _ _ (sym e))
fit_on n d (suc i) (p ∷ ps) h e =
    let more : suc i + 1 ≡ suc (i + 1) = omega arith in
    ap (λ k. first_fit n d (drop k (p ∷ ps))) more ∙ fit_on n d i ps (omega arith) e

pub fit_none : (n d i : ℕ) (ps : List Pair) → length ps ≤ i → None ≡ first_fit n d (drop i ps)
unfolding first_fit
fit_none n d zero [] h = refl
fit_none n d (suc i) [] h = refl
fit_none n d zero (p ∷ ps) h = absurd (omega arith)
fit_none n d (suc i) (p ∷ ps) h = fit_none n d i ps (omega arith)

-- each pair on offer is small, and its q and k are on offer
abbrev pub Small : Pair → Type 0
Small p = (1 ≤ p.0) × (p.0 ≤ 16) × (2 ≤ p.1) × (p.1 ≤ 4) × (among p.0 orders ≡ true) × (among p.1 coefficient_counts ≡ true)

pub small_all : (ps : List Pair) → all_offered ps ≡ true → AllByRecursion Small ps
small_all [] e = tt
small_all (p ∷ ps) e =
    let parts = and_parts (offered p) (all_offered ps) e in
    let here = and_parts (among p.0 orders) (among p.1 coefficient_counts) parts.0 in
    let q = offered_range p.0 here.0 in
    let k = degree_range p.1 here.1 in
    ((omega (arith, q.0), q.1, k.0, k.1, here.0, here.1), small_all ps parts.1)

pub all_small : AllByRecursion Small pairs
all_small = small_all pairs refl

-- the first that fits stands behind pairs that fail
found_at : (n d : ℕ) (ps before : List Pair) (p : Pair) → pairs ≡ before ++ ps → AllByRecursion (λ o. fits n d o ≡ false) before → AllByRecursion Small ps → first_fit n d ps ≡ Some p
    → FirstFit n d p × Small p
unfolding first_fit
found_at n d [] before p all fails small e = let z : ◌≡◌ {A = ℕ} 0 1 = cc in absurd (omega arith)
found_at n d (x ∷ xs) before p all fails small e =
    elim (cases_Bool (fits n d x)) [
      | inl fit ↦
          let is : x ≡ p = let s = sym (cond-true _ _ _ fit) ∙ e in cc in
          let at : FirstFit n d x × Small x = (record { earlier = before; later = xs; offered = all; fails_earlier = fails; fits_here = fit }, small.0) in
          subst (λ y. FirstFit n d y × Small y) is at
      | inr off ↦
          found_at n d xs (before ++ x ∷ []) p (all ∙ sym (append_assoc before (x ∷ []) xs))
          (All-append (λ o. fits n d o ≡ false) before (x ∷ []) fails (off, tt)) small.1 (sym (cond-false _ _ _ off) ∙ e)
    ]

pub found : (n d : ℕ) (p : Pair) → Some p ≡ first_fit n d pairs → FirstFit n d p × Small p
found n d p e = found_at n d pairs [] p refl tt all_small (sym e)

none_fits : (n d : ℕ) (ps : List Pair) → first_fit n d ps ≡ None → AllByRecursion (λ p. fits n d p ≡ false) ps
unfolding first_fit
none_fits n d [] e = tt
none_fits n d (x ∷ xs) e =
    elim (cases_Bool (fits n d x)) [
      | inl fit ↦ let s = sym (cond-true _ _ _ fit) ∙ e in let z : ◌≡◌ {A = ℕ} 0 1 = cc in absurd (omega arith)
      | inr off ↦ (off, none_fits n d xs (sym (cond-false _ _ _ off) ∙ e))
    ]

pub nothing : (n d : ℕ) → (d ≡ 1 → ⊥) → None ≡ first_fit n d pairs → NothingFits n d
nothing n d ne e = (ne, none_fits n d pairs (sym e))

-- the answer where a pair is found, where none is, and for one changed block
good_count : (n : ℕ) → 1 ≤ n → n ≤ 512 → bad_count 512 n ≡ false
good_count n low high = grind (arith, nat_tests)

chosen_is : (n d : ℕ) (o : Option Pair) → (d ≡ 1 → ⊥) → o ≡ first_fit n d pairs → chosen n d ≡ option_map (λ p. numbered_shape p.0 p.1 n) o
chosen_is n d o ne e = cond-false _ _ _ (ne_eqb d 1 ne) ∙ ap (option_map (λ p. numbered_shape p.0 p.1 n)) (sym e)

answered : (n d : ℕ) (o : Option Shape) → 1 ≤ n → n ≤ 512 → chosen n d ≡ o → choose_answer n d ≡ unless ((not (is_some o), NoSuchParameter) ∷ []) (unwrap_or o (halves_shape n))
answered n d o low high e =
    ap (λ b. unless ((b, BadBlockCount) ∷ ((not (is_some (chosen n d)), NoSuchParameter) ∷ [])) (unwrap_or (chosen n d) (halves_shape n))) (good_count n low high)
    ∙ ap (λ x. unless ((not (is_some x), NoSuchParameter) ∷ []) (unwrap_or x (halves_shape n))) e

module _ (n d : ℕ) (low : 1 ≤ n) (high : n ≤ 512) where
  module _ (ne : d ≡ 1 → ⊥) where
    pub choose_pair : (p : Pair) → Some p ≡ first_fit n d pairs → choose_answer n d ≡ Ok (numbered_shape p.0 p.1 n)
    choose_pair p e = answered n d (Some (numbered_shape p.0 p.1 n)) low high (chosen_is n d (Some p) ne e)

    pub choose_none : None ≡ first_fit n d pairs → choose_answer n d ≡ Err NoSuchParameter
    choose_none e = answered n d None low high (chosen_is n d None ne e)

-- a pair that fits makes a family
pub numbered_good : (n d : ℕ) (p : Pair) → 1 ≤ n → n ≤ 512 → fits n d p ≡ true → Small p → numbered_answer p.0 p.1 n ≡ Ok (numbered_shape p.0 p.1 n)
numbered_good n d p low high fit small =
    let enough = leb-true n (p.0 ^ p.1) (and_parts (eqb (poly_strength p.0 p.1) d) (leb n (p.0 ^ p.1)) fit).1 in
    let count : bad_count (p.0 ^ p.1) n ≡ false = grind (arith, nat_tests) in
    ap (λ b. unless ((not b, NoSuchParameter) ∷ ((not (among p.1 coefficient_counts), NoSuchParameter) ∷ ((bad_count (p.0 ^ p.1) n, BadBlockCount) ∷ []))) (numbered_shape p.0 p.1 n)) small.4
    ∙ ap (λ b. unless ((not b, NoSuchParameter) ∷ ((bad_count (p.0 ^ p.1) n, BadBlockCount) ∷ [])) (numbered_shape p.0 p.1 n)) small.5
    ∙ ap (λ b. unless ((b, BadBlockCount) ∷ []) (numbered_shape p.0 p.1 n)) count

-- what is known of a family by what it answers
pub by_shape : {A : Type 0} (shape : A → Shape) (P : Shape → Type 0) (Q : Refusal → Type 0) (r : Result A Refusal) (s : Shape)
    → results.result_map_both shape (λ e. e) r ≡ Ok s → P s → results.MatchResult r (λ a. P (shape a)) Q
by_shape shape P Q (Ok a) s e h = let is : shape a ≡ s = cc in subst P (sym is) h
by_shape shape P Q (Err x) s e h = let z : ◌≡◌ {A = ℕ} 0 1 = cc in absurd (omega arith)
