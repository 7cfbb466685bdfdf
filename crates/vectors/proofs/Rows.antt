-- Rows of a table whose names are of one length and begin alike.
use Rattle.std.proofs.Common.{◌≡◌, ◌≢◌, true, false, cond, get_or, Option, refl, ap}
use Rattle.std.specs.Str.{bytes_eq}
use Rattle.std.proofs.lemmas.Slice.Eq.{bytes_eq-Decides}
use Rattle.scripts.specs.Words.{Bytes}

-- this row's name has another byte behind a front of four, as `lms-`
pub row_fifth : {A : Type 0} (word name : Bytes) (here rest answer : Option A) → get_or word 4 0 ≢ get_or name 4 0 → answer ≡ rest → answer ≡ cond (bytes_eq word name) here rest
row_fifth word name here rest answer b e =
    (elim (bytes_eq word name) as (λ v. bytes_eq word name ≡ v → answer ≡ cond v here rest) [
      | true ↦ λ t. absurd (b (ap (λ w. get_or w 4 0) ((bytes_eq-Decides word name).0 t)))
      | false ↦ λ f. e
    ]) refl
