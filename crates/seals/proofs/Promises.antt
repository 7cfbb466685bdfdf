-- The seal part that a seal writes keeps every promise.
use Rattle.std.proofs.Common.{◌≡◌, ℕ, Bool, List, sym, subst}
use Rattle.digests.specs.Strings.{Bytes}
use Rattle.seals.specs.Scheme.{Scheme, Inspection, inspection}
use Rattle.seals.specs.Part.{seal_part}
use Rattle.seals.specs.Law.{Promised}
use Rattle.seals.proofs.Established.{Written}
use Rattle.seals.proofs.Law.{promised}
use Rattle.seals.proofs.ReadBack.{sealed_by_part}

pub sealed_promises : (s : Scheme) (own : Inspection) (number : ℕ) (bs : List Bytes) (signature : Bytes) → Written s own number bs signature
    → Promised s own (seal_part s own.kind number bs signature) bs
sealed_promises s own number bs signature h = promised s own (seal_part s own.kind number bs signature) bs (sealed_by_part s own number bs signature h)

-- An inspector that says the same is promised the same.
pub seen_alike : (s : Scheme) (kind : ℕ) (says : ℕ → Bytes → Bytes → Bool) (other : ℕ) (also : ℕ → Bytes → Bytes → Bool) (part : Bytes) (bs : List Bytes)
    → other ≡ kind → also ≡ says → Promised s (inspection kind says) part bs → Promised s (inspection other also) part bs
seen_alike s kind says other also part bs e f h =
    subst (λ (k : ℕ). Promised s (inspection k also) part bs) (sym e)
    (subst (λ (a : ℕ → Bytes → Bytes → Bool). Promised s (inspection kind a) part bs) (sym f) h)
