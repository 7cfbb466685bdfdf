-- The line of a text that is one line.
use Rattle.std.proofs.Common.{◌≡◌, ℕ, ◌+◌, ◌<◌, ◌≤◌, Bool, true, false, cond, eqb, ltb, length, take, Some, None, sym, refl, ap, ◌∙◌, arith}
use Rattle.std.specs.List.{position, position_or_len}
use Rattle.std.proofs.lemmas.Option.{cond_some}
use Rattle.std.proofs.lemmas.Bool.{cond-true, cond-false}
use Rattle.std.proofs.lemmas.Bool.Decides.{nat_tests}
use Rattle.scripts.specs.Words.{Bytes}
use Rattle.keyfiles.specs.Files.{ends_line, only_line}

cond_none : (b : Bool) (n : ℕ) → cond b (Some n) None ≡ None → b ≡ false
cond_none true n e = cc
cond_none false n e = refl

module _ (text : Bytes) where
  pub no_end : None ≡ position (λ b. eqb b 10) text → None ≡ only_line text
  unfolding only_line
  no_end h =
      let n = position_or_len ends_line text in
      let past : ltb n (length text) ≡ false = cond_none (ltb n (length text)) n (sym h) in
      let other : eqb (n + 1) (length text) ≡ false = grind (arith, nat_tests) in
      sym (cond-false _ _ _ other)

  module _ (i : ℕ) (h : Some i ≡ position (λ b. eqb b 10) text) where
    at : (ltb (position_or_len ends_line text) (length text) ≡ true) × (position_or_len ends_line text ≡ i)
    at = cond_some (ltb (position_or_len ends_line text) (length text)) (position_or_len ends_line text) i (sym h)

    pub more_lines : i + 1 < length text → None ≡ only_line text
    unfolding only_line
    more_lines l =
        let same = at.1 in
        let other : eqb (position_or_len ends_line text + 1) (length text) ≡ false = grind (arith, nat_tests) in
        sym (cond-false _ _ _ other)

    pub one_line : length text ≤ i + 1 → Some (take i text) ≡ only_line text
    unfolding only_line
    one_line l =
        let below = at.0 in
        let same = at.1 in
        let last : eqb (position_or_len ends_line text + 1) (length text) ≡ true = grind (arith, nat_tests) in
        sym (cond-true _ _ _ last ∙ ap (λ n. Some (take n text)) same)

pub ruleset lines = (no_end, more_lines, one_line)
