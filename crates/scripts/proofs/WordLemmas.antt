-- One byte more of a line, and one digit more of a number.
use Rattle.std.proofs.Common.{◌≡◌, ℕ, suc, ◌+◌, ◌-◌, ◌*◌, ◌<◌, ◌≤◌, Bool, true, false, cond, eqb, ltb, leb, [], ◌∷◌, length, get_or, take, drop, Some, None, MatchOption, Option, sym, refl, ap, ◌∙◌, arith, add-one}
use Rattle.std.specs.List.{position, position_or_len}
use Rattle.std.proofs.lemmas.Option.{cond_some}
use Rattle.std.proofs.lemmas.List.{take_all, at_drop_more, at_drop_all}
use Rattle.std.proofs.lemmas.Bool.{cond-true, cond-false}
use Rattle.std.proofs.lemmas.Bool.Decides.{nat_tests}
use Rattle.scripts.specs.Words.{Bytes, first_word, behind_word, is_digit, decimal_value, number_behind, at_most, number_of}

cond_none : (b : Bool) (n : ℕ) → cond b (Some n) None ≡ None → b ≡ false
cond_none true n e = cc
cond_none false n e = refl

-- where the first space of a line stands, or its end
place : Bytes → ℕ
place line = position_or_len (λ b. eqb b 32) line

place_none : place [] ≡ 0
unfolding place
place_none = refl

place_more : (x : ℕ) (xs : Bytes) → eqb x 32 ≡ false → place (x ∷ xs) ≡ place xs + 1
unfolding place
place_more x xs e = rw e (omega arith)

place_here : (x : ℕ) (xs : Bytes) → eqb x 32 ≡ true → place (x ∷ xs) ≡ 0
unfolding place
place_here x xs e = rw e refl

-- a line is parted at its first space
word_before : (line : Bytes) → take (place line) line ≡ first_word line
unfolding first_word
word_before [] = rw place_none refl
word_before (x ∷ xs) =
    (elim (eqb x 32) as (λ v. eqb x 32 ≡ v → take (place (x ∷ xs)) (x ∷ xs) ≡ cond v [] (x ∷ first_word xs)) [
      | true ↦ λ e. rw (place_here x xs e) refl
      | false ↦ λ e. rw (place_more x xs e, add-one) (ap (λ t. x ∷ t) (word_before xs))
    ]) refl

behind_first : (line : Bytes) → behind_word line ≡ cond (ltb (place line) (length line)) (Some (drop (place line + 1) line)) None
unfolding behind_word
behind_first [] = rw place_none refl
behind_first (x ∷ xs) =
    let n = place xs in
    let more : ltb (n + 1) (suc (length xs)) ≡ ltb n (length xs) = (elim (ltb n (length xs)) as (λ v. ltb n (length xs) ≡ v → ltb (n + 1) (suc (length xs)) ≡ v) [ true ↦ λ t. grind (arith, nat_tests) | false ↦ λ t. grind (arith, nat_tests) ]) refl in
    (elim (eqb x 32) as (λ v. eqb x 32 ≡ v → cond v (Some xs) (behind_word xs) ≡ cond (ltb (place (x ∷ xs)) (suc (length xs))) (Some (drop (place (x ∷ xs) + 1) (x ∷ xs))) None) [
      | true ↦ λ e. let some : ltb 0 (suc (length xs)) ≡ true = grind (arith, nat_tests) in rw (place_here x xs e, some) refl
      | false ↦ λ e. rw (place_more x xs e, more, add-one) (behind_first xs)
    ]) refl

pub parted : (line : Bytes) (r : Option ℕ) → r ≡ position (λ b. eqb b 32) line
    → MatchOption r ((line ≡ first_word line) × (None ≡ behind_word line)) (λ i. (i < length line) × (take i line ≡ first_word line) × (Some (drop (i + 1) line) ≡ behind_word line))
unfolding place
parted line (Some i) h =
    let n = place line in
    let at : (ltb n (length line) ≡ true) × (n ≡ i) = cond_some (ltb n (length line)) n i (sym h) in
    let below : n < length line = let b = at.0 in grind (arith, nat_tests) in
    rw (← at.1) (below, word_before line, sym (behind_first line ∙ cond-true _ _ _ at.0))
parted line None h =
    let n = place line in
    let past : ltb n (length line) ≡ false = cond_none (ltb n (length line)) n (sym h) in
    let all : length line ≤ n = grind (arith, nat_tests) in (sym (take_all n line all) ∙ word_before line, sym (behind_first line ∙ cond-false _ _ _ past))

pub number_none : (word : Bytes) (most : ℕ) → length word ≡ 0 → None ≡ number_of word most
unfolding number_of
number_none [] most h = refl
number_none (x ∷ xs) most h = absurd (omega arith)

pub number_some : (word : Bytes) (most : ℕ) → 0 < length word → at_most most (number_behind 0 word) ≡ number_of word most
unfolding number_of
number_some [] most h = absurd (omega arith)
number_some (x ∷ xs) most h = refl

-- more digits never bring a number down again
pub past_most : (most n : ℕ) (xs : Bytes) → most < n → None ≡ at_most most (number_behind n xs)
unfolding number_behind
past_most most n [] h = let e : leb n most ≡ false = grind (arith, nat_tests) in sym (cond-false _ _ _ e)
past_most most n (x ∷ xs) h =
    elim (is_digit x) as (λ v. None ≡ at_most most (cond v (number_behind (n * 10 + (x - 48)) xs) None)) [
      | true ↦ past_most most (n * 10 + (x - 48)) xs (omega arith)
      | false ↦ refl
    ]

module _ (word : Bytes) (most n i : ℕ) where
  digits_at : i < length word → number_behind n (drop i word) ≡ cond (is_digit (get_or word i 0)) (number_behind (n * 10 + (get_or word i 0 - 48)) (drop (i + 1) word)) None
  unfolding number_behind
  digits_at h = at_drop_more (number_behind n) word i 0 h

  pub digits_more : (d : ℕ) → i < length word → Some d ≡ decimal_value (get_or word i 0) → number_behind n (drop i word) ≡ number_behind (n * 10 + d) (drop (i + 1) word)
  digits_more d h e =
      let x = get_or word i 0 in
      let rest : ℕ → Option ℕ = λ v. number_behind (n * 10 + v) (drop (i + 1) word) in
      let digit : (b : Bool) → Some d ≡ cond b (Some (x - 48)) None → cond b (rest (x - 48)) None ≡ rest d
      = λ b. elim b as (λ v. Some d ≡ cond v (Some (x - 48)) None → cond v (rest (x - 48)) None ≡ rest d) [
        | true ↦ λ s. let same : d ≡ x - 48 = cc in ap rest (sym same)
        | false ↦ λ s. let z : ◌≡◌ {A = ℕ} 0 1 = cc in absurd (omega arith)
      ] in
      digits_at h ∙ digit (is_digit x) e

  pub digits_stop : i < length word → None ≡ decimal_value (get_or word i 0) → None ≡ at_most most (number_behind n (drop i word))
  digits_stop h e =
      let x = get_or word i 0 in
      let rest = number_behind (n * 10 + (x - 48)) (drop (i + 1) word) in
      let none : (b : Bool) → None ≡ cond b (Some (x - 48)) None → cond b rest None ≡ None
      = λ b. elim b as (λ v. None ≡ cond v (Some (x - 48)) None → cond v rest None ≡ None) [
        | true ↦ λ s. let z : ◌≡◌ {A = ℕ} 0 1 = cc in absurd (omega arith)
        | false ↦ λ s. refl
      ] in
      sym (ap (at_most most) (digits_at h ∙ none (is_digit x) e))

  pub digits_all : length word ≤ i → n ≤ most → Some n ≡ at_most most (number_behind n (drop i word))
  unfolding number_behind
  digits_all h l =
      let e : leb n most ≡ true = grind (arith, nat_tests) in
      sym (ap (at_most most) (at_drop_all (number_behind n) word i h) ∙ cond-true _ _ _ e)

pub ruleset number_steps = (number_none, number_some, past_most, digits_more, digits_stop, digits_all)
