-- What holds of keys and signatures over any hash. Assumes nothing.
use Rattle.std.specs.Prelude.{◌≡◌, ℕ, ◌<◌, true, ◌↔◌, length, take}
use Rattle.digests.specs.Strings.{Bytes}
use Rattle.lms.specs.Strings.{Hash, u32str, str_to_u32, bytes_at}
use Rattle.lms.specs.Lms.{public_key, lms_root, lms_sign, lms_candidate, lms_accepts, lms_says}

-- the signature to a message by a leaf
pub record Signed (hash : Hash) (public : Bytes) (leaf : ℕ) (message signature : Bytes) : Type 0 where
  pub accepted : lms_accepts hash public message signature ≡ true
  pub yes : lms_says hash public leaf message signature ≡ true
  pub long : length signature ≡ 1292
  pub begins : take 4 signature ≡ u32str leaf

-- over any hash of 32 bytes, every signature by a leaf is accepted under its public key
abbrev pub SigningIsAccepted : Type 0
SigningIsAccepted =
    (hash : Hash) → ((s : Bytes) → length (hash s) ≡ 32) →
    (id seed : Bytes) → length id ≡ 16 →
    (leaf : ℕ) → leaf < 32 → (message : Bytes) →
    Signed hash (public_key id (lms_root hash id seed)) leaf message (lms_sign hash id seed leaf message)

-- what Algorithm 6 accepts
pub record Accepted (hash : Hash) (public message signature : Bytes) : Type 0 where
  pub key_long : length public ≡ 56
  pub key_type : str_to_u32 (bytes_at public 0 4) ≡ 5
  pub key_ots_type : str_to_u32 (bytes_at public 4 4) ≡ 4
  pub long : length signature ≡ 1292
  pub leaf : str_to_u32 (bytes_at signature 0 4) < 32
  pub ots_type : str_to_u32 (bytes_at signature 4 4) ≡ 4
  pub type : str_to_u32 (bytes_at signature 1128 4) ≡ 5
  pub root : lms_candidate hash (bytes_at public 8 16) message signature ≡ bytes_at public 24 32

abbrev pub AcceptsExactlyIf : Type 0
AcceptsExactlyIf = (hash : Hash) (public message signature : Bytes) → lms_accepts hash public message signature ≡ true ↔ Accepted hash public message signature

abbrev pub PublicKeysHave56Bytes : Type 0
PublicKeysHave56Bytes =
    (hash : Hash) → ((s : Bytes) → length (hash s) ≡ 32) → (id seed : Bytes) → length id ≡ 16 → length (public_key id (lms_root hash id seed)) ≡ 56
