-- What a key with SHA-256 promises of its signatures and of its public part. Assumes nothing.
use Rattle.std.proofs.Common.{◌≡◌, ℕ, ◌<◌, ◌≤◌, true, length, take, refl, sym, ap, ◌∙◌, ap₂, arith}
use Rattle.digests.specs.Strings.{Bytes}
use Rattle.sha256.specs.Sha256.{sha256_of}
use Rattle.sha256.specs.Hashed.{length_sha256_of}
use Rattle.lms.specs.Lms.{public_key, lms_root, lms_sign, lms_says}
use Rattle.lms.specs.SigningLaw.{length_sign, signing_is_accepted}

pub key_sized : (id seed : Bytes) (number : ℕ) (text : Bytes) → length (lms_sign sha256_of id seed number text) ≡ 1292
key_sized id seed number text = length_sign sha256_of length_sha256_of id seed number text

pub key_signs : (id seed : Bytes) (next number : ℕ) (text : Bytes) → length id ≡ 16 → next ≤ 32 → number < next
    → lms_says sha256_of (public_key id (lms_root sha256_of id seed)) number text (lms_sign sha256_of id seed number text) ≡ true
key_signs id seed next number text sixteen within drawn =
    (signing_is_accepted sha256_of length_sha256_of id seed sixteen number (omega arith) text).yes

pub key_own_alike : (id seed other root : Bytes) → (other ≡ id) × (root ≡ lms_root sha256_of id seed)
    → (◌≡◌ {A = ℕ} 2 2) × (lms_says sha256_of (public_key other root) ≡ lms_says sha256_of (public_key id (lms_root sha256_of id seed)))
key_own_alike id seed other root owned = (refl, ap₂ (λ a b. lms_says sha256_of (public_key a b)) owned.0 owned.1)

-- such a signature at the front of a string
pub key_writes : (id seed : Bytes) (next number : ℕ) (text signature out : Bytes) → length id ≡ 16 → next ≤ 32 → number < next
    → signature ≡ lms_sign sha256_of id seed number text → take (length signature) out ≡ signature
    → lms_says sha256_of (public_key id (lms_root sha256_of id seed)) number text (take 1292 out) ≡ true
key_writes id seed next number text signature out sixteen within drawn is front =
    let long : length signature ≡ 1292 = ap length is ∙ key_sized id seed number text in
    ap (λ (s : Bytes). lms_says sha256_of (public_key id (lms_root sha256_of id seed)) number text s) (ap (λ (n : ℕ). take n out) (sym long) ∙ front ∙ is)
    ∙ key_signs id seed next number text sixteen within drawn
