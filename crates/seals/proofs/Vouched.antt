-- What the lowest row that clears a block says of the answer of a vouch.
use Rattle.std.proofs.Common.{◌≡◌, ℕ, true, false, List, [], ◌∷◌, length, Some, None, ◌==◌, slice_index, refl, arith}
use Rattle.std.specs.Prelude.{slice_get}
use Rattle.std.proofs.lemmas.Bool.{ne_eqb}
use Rattle.digests.specs.Strings.{Bytes}
use Rattle.sheets.specs.Calls.{with_block}
use Rattle.seals.specs.Scheme.{Scheme}
use Rattle.seals.specs.Calls.{vouching}
use Rattle.seals.specs.Passing.{clearing_rows}

empty : (xs : List ℕ) → None ≡ slice_get xs 0 → (length xs == 0) ≡ true
empty [] e = refl
empty (x ∷ xs) e = cc

starts : (xs : List ℕ) (i : ℕ) → Some i ≡ slice_get xs 0 → ((length xs == 0) ≡ false) × (slice_index xs 0 ≡ i)
starts [] i e = cc
starts (x ∷ xs) i e = (ne_eqb (length (x ∷ xs)) 0 (λ z. absurd (omega (arith, z))), cc)

module _ (s : Scheme) (part : Bytes) (bs : List Bytes) (j : ℕ) (v : Bytes) where
  pub no_row : None ≡ slice_get (clearing_rows s part (with_block bs j v) j) 0 → (length (vouching s part bs j v) == 0) ≡ true
  unfolding vouching clearing_rows
  no_row e = empty (vouching s part bs j v) e

  pub lowest_row : (i : ℕ) → Some i ≡ slice_get (clearing_rows s part (with_block bs j v) j) 0
      → ((length (vouching s part bs j v) == 0) ≡ false) × (slice_index (vouching s part bs j v) 0 ≡ i)
  unfolding vouching clearing_rows
  lowest_row i e = starts (vouching s part bs j v) i e
