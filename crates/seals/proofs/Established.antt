-- What a seal starts from, and what a seal part that was written so establishes.
use Rattle.std.specs.Prelude.{◌≡◌, ℕ, ◌<◌, ◌≤◌, true, List, length}
use Rattle.digests.specs.Strings.{Bytes}
use Rattle.families.specs.Shape.{Lawful}
use Rattle.sheets.specs.Calls.{total_bytes}
use Rattle.seals.specs.Images.{row_image, whole_image}
use Rattle.seals.specs.Scheme.{Scheme, Inspection}
use Rattle.seals.specs.Part.{text_to_sign, part_sealer_kind, is_seal_part, seal_number, signed_text, signature_of, row_digest, whole_digest}
use Rattle.seals.specs.Calls.{same_scheme}

-- what a seal that succeeds has at hand
pub record Written (s : Scheme) (own : Inspection) (number : ℕ) (bs : List Bytes) (signature : Bytes) : Type 0 where
  pub counted : length bs ≡ s.family.blocks
  pub fits : total_bytes bs ≤ 38912
  pub lawful : Lawful s.family
  pub digest_size : (b : Bytes) → length (s.digest b) ≡ 32
  pub digest_named : 1 ≤ s.digest_kind
  pub sealer_named : 1 ≤ own.kind
  pub number_fits : number < 4294967296
  pub signature_fits : length signature ≤ 65535
  pub genuine : own.says number (text_to_sign s own.kind number bs) signature ≡ true

-- what holds of the seal part that it wrote
pub record Established (s : Scheme) (own : Inspection) (part : Bytes) (sealed : List Bytes) : Type 0 where
  pub counted : length sealed ≡ s.family.blocks
  pub fits : total_bytes sealed ≤ 38912
  pub lawful : Lawful s.family
  pub row_digests : (i : ℕ) → 1 ≤ i → i ≤ s.family.rows → row_digest part i ≡ s.digest (row_image s.family.holds i sealed)
  pub whole_digest_is : whole_digest part ≡ s.digest (whole_image sealed)
  pub formed : is_seal_part part ≡ true
  pub scheme_is : same_scheme s part ≡ true
  pub same_kind : part_sealer_kind part ≡ own.kind
  pub genuine : own.says (seal_number part) (signed_text part) (signature_of part) ≡ true
