-- Looking for the lowest row that clears a block, row by row.
use Rattle.std.proofs.Common.{◌≡◌, ℕ, suc, ◌+◌, ◌-◌, ◌<◌, ◌≤◌, Bool, true, false, List, ◌∷◌, Some, None, Option, ap, ◌∙◌, arith}
use Rattle.std.specs.Prelude.{slice_get}
use Rattle.digests.specs.Strings.{Bytes}
use Rattle.families.specs.Numbers.{numbers, keep_where}
use Rattle.seals.specs.Scheme.{Scheme}
use Rattle.seals.specs.Passing.{clears, clearing_rows}

module _ (s : Scheme) (part : Bytes) (bs : List Bytes) (j : ℕ) where
  -- the lowest from row i on
  unfoldable pub lowest_from : ℕ → Option ℕ
  lowest_from i = slice_get (keep_where (clears s part bs j) (numbers i (s.family.rows + 1 - i))) 0

  pub lowest_first : lowest_from 1 ≡ slice_get (clearing_rows s part bs j) 0
  unfolding lowest_from clearing_rows
  lowest_first = let all : s.family.rows + 1 - 1 ≡ s.family.rows = omega arith in ap (λ k. slice_get (keep_where (clears s part bs j) (numbers 1 k)) 0) all

  front : Bool → ℕ → Option ℕ
  front b i = slice_get (elim b [ true ↦ i ∷ keep_where (clears s part bs j) (numbers (suc i) (s.family.rows - i)) | false ↦ keep_where (clears s part bs j) (numbers (suc i) (s.family.rows - i)) ]) 0

  opened : (i : ℕ) → i ≤ s.family.rows → lowest_from i ≡ front (clears s part bs j i) i
  unfolding lowest_from front keep_where numbers
  opened i here =
      let left : s.family.rows + 1 - i ≡ suc (s.family.rows - i) = omega arith in
      ap (λ k. slice_get (keep_where (clears s part bs j) (numbers i k)) 0) left

  pub lowest_yes : (i : ℕ) → i ≤ s.family.rows → clears s part bs j i ≡ true → lowest_from i ≡ Some i
  unfolding front
  lowest_yes i here e = opened i here ∙ ap (λ b. front b i) e

  pub lowest_no : (i : ℕ) → i ≤ s.family.rows → clears s part bs j i ≡ false → lowest_from i ≡ lowest_from (i + 1)
  unfolding front lowest_from
  lowest_no i here e =
      let next : suc i ≡ i + 1 = omega arith in
      let left : s.family.rows - i ≡ s.family.rows + 1 - (i + 1) = omega arith in
      opened i here ∙ ap (λ b. front b i) e
      ∙ ap (λ k. slice_get (keep_where (clears s part bs j) (numbers k (s.family.rows - i))) 0) next
      ∙ ap (λ k. slice_get (keep_where (clears s part bs j) (numbers (i + 1) k)) 0) left

  pub lowest_end : (i : ℕ) → s.family.rows < i → lowest_from i ≡ None
  unfolding lowest_from keep_where numbers
  lowest_end i past = let none : s.family.rows + 1 - i ≡ 0 = omega arith in ap (λ k. slice_get (keep_where (clears s part bs j) (numbers i k)) 0) none
