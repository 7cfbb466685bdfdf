-- Single is cover-free, and the next block of a row.
use Rattle.std.specs.Prelude.{◌≡◌, ℕ, ◌+◌, ◌-◌, ◌<◌, ◌≤◌, ◌⊎◌, List, [], ◌∷◌, Some, None, nat_eq, refl}
use Rattle.std.proofs.Common.{sym, arith}
use Rattle.std.proofs.lemmas.Bool.{eq-eqb, ne_eqb}
use Rattle.std.proofs.lemmas.Bool.Decides.{nat_tests}
use Rattle.families.specs.Numbers.{lowest}
use Rattle.families.specs.Family.{Beside, NoneIn}
use Rattle.families.specs.Single.{single_holds, SingleCoverFree}
use Rattle.families.specs.Lowest.{lowest_found, lowest_none}
use Rattle.families.specs.Bounded.{cover_bounded}

none_other : (n j : ℕ) (others : List ℕ) → Beside n j others → NoneIn nat_eq j others
none_other n j [] b = tt
none_other n j (m ∷ ms) b = (ne_eqb j m (λ e. b.0.2 (sym e)), none_other n j ms b.1)

pub single_cover_free : SingleCoverFree
single_cover_free n =
    cover_bounded n n n nat_eq
    (record { some_row = λ j j1 jn others few beside. (j, (j1, jn, eq-eqb j j refl, none_other n j others beside)) })

pub single_next : (n row after : ℕ) → after < row → row ≤ n → lowest (single_holds n row) (after + 1) (n - after) ≡ Some row
single_next n row after low high =
    lowest_found (single_holds n row) (n - after) (after + 1) row (omega arith) (omega arith) (grind (arith, nat_tests)) (λ x l h. grind (arith, nat_tests))

pub single_no_next : (n row after : ℕ) → (row ≤ after) ⊎ (n < row) → lowest (single_holds n row) (after + 1) (n - after) ≡ None
single_no_next n row after outside = lowest_none (single_holds n row) (n - after) (after + 1) (λ x l h. grind (arith, nat_tests))
