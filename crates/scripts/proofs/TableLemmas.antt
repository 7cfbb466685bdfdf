-- What a table has at a word of which each byte was read.
use Rattle.std.proofs.Common.{◌≡◌, ◌≢◌, true, false, cond, length, get_or, Some, Option, sym, refl, ap}
use Rattle.std.specs.Str.{bytes_eq}
use Rattle.std.proofs.lemmas.Bool.{cond-true}
use Rattle.std.proofs.lemmas.Slice.Eq.{bytes_eq-Decides, HasBytesAt, text_from_reads}
use Rattle.scripts.specs.Words.{Bytes}

-- the row is here
pub row_here : {A : Type 0} (word name : Bytes) (value : A) (rest : Option A) → length word ≡ length name → HasBytesAt word 0 name → Some value ≡ cond (bytes_eq word name) (Some value) rest
row_here word name value rest l h = sym (cond-true _ _ _ ((bytes_eq-Decides word name).1 (text_from_reads word name l h)))

-- this row's name is longer or shorter
pub row_later : {A : Type 0} (word name : Bytes) (here rest answer : Option A) → length word ≢ length name → answer ≡ rest → answer ≡ cond (bytes_eq word name) here rest
row_later word name here rest answer l e =
    (elim (bytes_eq word name) as (λ v. bytes_eq word name ≡ v → answer ≡ cond v here rest) [
      | true ↦ λ t. absurd (l (ap length ((bytes_eq-Decides word name).0 t)))
      | false ↦ λ f. e
    ]) refl

-- this row's name begins with another byte
pub row_otherwise : {A : Type 0} (word name : Bytes) (here rest answer : Option A) → get_or word 0 0 ≢ get_or name 0 0 → answer ≡ rest → answer ≡ cond (bytes_eq word name) here rest
row_otherwise word name here rest answer b e =
    (elim (bytes_eq word name) as (λ v. bytes_eq word name ≡ v → answer ≡ cond v here rest) [
      | true ↦ λ t. absurd (b (ap (λ w. get_or w 0 0) ((bytes_eq-Decides word name).0 t)))
      | false ↦ λ f. e
    ]) refl

-- or it does so at its second byte
pub row_second : {A : Type 0} (word name : Bytes) (here rest answer : Option A) → get_or word 1 0 ≢ get_or name 1 0 → answer ≡ rest → answer ≡ cond (bytes_eq word name) here rest
row_second word name here rest answer b e =
    (elim (bytes_eq word name) as (λ v. bytes_eq word name ≡ v → answer ≡ cond v here rest) [
      | true ↦ λ t. absurd (b (ap (λ w. get_or w 1 0) ((bytes_eq-Decides word name).0 t)))
      | false ↦ λ f. e
    ]) refl

pub ruleset row_read = (row_here, row_later, row_otherwise, row_second)
