-- The blocks that are left uncleared are the suspects.
use Rattle.std.proofs.Common.{◌≡◌, ℕ, zero, suc, ◌+◌, ◌-◌, ◌<◌, ◌≤◌, Bool, true, false, not, List, [], ◌∷◌, replicate, refl, sym, ap, ◌∙◌, arith}
use Rattle.std.proofs.lemmas.List.{get_or-replicate}
use Rattle.digests.specs.Strings.{Bytes}
use Rattle.families.specs.Numbers.{numbers, keep_where}
use Rattle.seals.specs.Scheme.{Scheme}
use Rattle.seals.specs.Part.{is_seal_part}
use Rattle.seals.specs.Calls.{same_scheme, agrees, suspect, suspects}
use Rattle.seals.specs.Cleared.{is_cleared, uncleared}
use Rattle.seals.specs.Passing.{some_clears}
use Rattle.seals.proofs.Counted.{blocks_few}

-- tests that agree at each number keep the same numbers
kept_alike : (p q : ℕ → Bool) (from room : ℕ) → ((j : ℕ) → from ≤ j → j < from + room → p j ≡ q j) → keep_where p (numbers from room) ≡ keep_where q (numbers from room)
unfolding keep_where numbers
kept_alike p q from zero same = refl
kept_alike p q from (suc room) same =
    ap (λ b. front b (keep_where p (numbers (suc from) room))) (same from (omega arith) (omega arith))
    ∙ ap (front (q from)) (kept_alike p q (suc from) room (λ j low high. same j (omega arith) (omega arith)))
  where
    front : Bool → List ℕ → List ℕ
    front b ks = elim b [ true ↦ from ∷ ks | false ↦ ks ]

none_kept : (p : ℕ → Bool) (from room : ℕ) → ((j : ℕ) → from ≤ j → j < from + room → p j ≡ false) → keep_where p (numbers from room) ≡ []
unfolding keep_where numbers
none_kept p from zero none = refl
none_kept p from (suc room) none =
    ap (λ b. front b (keep_where p (numbers (suc from) room))) (none from (omega arith) (omega arith))
    ∙ none_kept p (suc from) room (λ j low high. none j (omega arith) (omega arith))
  where
    front : Bool → List ℕ → List ℕ
    front b ks = elim b [ true ↦ from ∷ ks | false ↦ ks ]

module _ (s : Scheme) (part : Bytes) (bs : List Bytes) where
  all_or : Bool → List ℕ
  all_or b = elim b [ true ↦ [] | false ↦ keep_where (suspect s part bs) (numbers 1 s.family.blocks) ]

  by_agreement : (b : Bool) → agrees s part bs ≡ b → all_or b ≡ suspects s part bs
  unfolding all_or suspects
  by_agreement b e = ap all_or (sym e)

  -- where the whole agrees, all blocks count as cleared
  pub none_suspected : is_seal_part part ≡ true → same_scheme s part ≡ true → agrees s part bs ≡ true → uncleared (replicate 512 true) s.family.blocks ≡ suspects s part bs
  unfolding uncleared all_or
  none_suspected formed same agree =
      let few = blocks_few s part same formed in
      none_kept (λ j. not (is_cleared (replicate 512 true) j)) 1 s.family.blocks (λ j low high. ap not (get_or-replicate 512 (j - 1) true false (omega (arith, few))))
      ∙ by_agreement true agree

  pub suspected : (cleared : List Bool) → agrees s part bs ≡ false
      → ((j : ℕ) → 1 ≤ j → is_cleared cleared j ≡ some_clears s part bs j) → uncleared cleared s.family.blocks ≡ suspects s part bs
  unfolding uncleared suspect some_clears all_or
  suspected cleared disagree clear =
      kept_alike (λ j. not (is_cleared cleared j)) (suspect s part bs) 1 s.family.blocks (λ j low high. ap not (clear j low))
      ∙ by_agreement false disagree
