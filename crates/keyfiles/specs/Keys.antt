-- What a key of any kind answers, and its inspector. Assumes nothing.
use Rattle.std.specs.Prelude.{◌≡◌, ℕ, Bool}
use Rattle.blake2s.specs.Blake2s.{blake2s}
use Rattle.digests.specs.Hmac.{hmac_of}
use Rattle.digests.specs.Strings.{Bytes}
use Rattle.keys.specs.Key.{Key}
use Rattle.keys.specs.Tag.{tag_says, tag_key}
use Rattle.lms.specs.Key.{lms_key}
use Rattle.lms.specs.Lms.{public_key, lms_root, lms_sign, lms_says}
use Rattle.sha256.specs.Sha256.{sha256_of}
use Rattle.keyfiles.specs.declared.key.AnyInspector.{AnyInspector}
use Rattle.keyfiles.specs.declared.key.AnyInspector.TheVariants as inspectors
use Rattle.keyfiles.specs.declared.key.AnyKey.{AnyKey}
use Rattle.keyfiles.specs.declared.key.AnyKey.TheVariants as keys

abbrev pub inspector_kind : AnyInspector → ℕ
inspector_kind (inspectors.TagSha256 i) = 1
inspector_kind (inspectors.TagBlake2s i) = 1
inspector_kind (inspectors.Lms i) = 2

abbrev pub inspector_says : AnyInspector → ℕ → Bytes → Bytes → Bool
inspector_says (inspectors.TagSha256 i) number text signature = tag_says sha256_of 64 i.secret text signature
inspector_says (inspectors.TagBlake2s i) number text signature = tag_says blake2s 64 i.secret text signature
inspector_says (inspectors.Lms i) number text signature = lms_says sha256_of (public_key i.id i.root) number text signature

abbrev pub key_kind : AnyKey → ℕ
key_kind (keys.TagSha256 k) = 1
key_kind (keys.TagBlake2s k) = 1
key_kind (keys.Lms k) = 2

abbrev pub key_says : AnyKey → ℕ → Bytes → Bytes → Bool
key_says (keys.TagSha256 k) number text signature = tag_says sha256_of 64 k.inspector.secret text signature
key_says (keys.TagBlake2s k) number text signature = tag_says blake2s 64 k.inspector.secret text signature
key_says (keys.Lms k) number text signature = lms_says sha256_of (public_key k.id (lms_root sha256_of k.id k.seed)) number text signature

abbrev pub key_of : AnyKey → Key
key_of (keys.TagSha256 k) = tag_key k.name k.next
key_of (keys.TagBlake2s k) = tag_key k.name k.next
key_of (keys.Lms k) = lms_key k.id k.next

abbrev pub key_signature : AnyKey → ℕ → Bytes → Bytes
key_signature (keys.TagSha256 k) number text = hmac_of sha256_of 64 k.inspector.secret text
key_signature (keys.TagBlake2s k) number text = hmac_of blake2s 64 k.inspector.secret text
key_signature (keys.Lms k) number text = lms_sign sha256_of k.id k.seed number text

-- the inspector is of the same kind and holds the same secret, or the public part
abbrev pub KeyOwns : AnyKey → AnyInspector → Type 0
KeyOwns (keys.TagSha256 k) (inspectors.TagSha256 i) = i.secret ≡ k.inspector.secret
KeyOwns (keys.TagSha256 k) (inspectors.TagBlake2s i) = ⊥
KeyOwns (keys.TagSha256 k) (inspectors.Lms i) = ⊥
KeyOwns (keys.TagBlake2s k) (inspectors.TagSha256 i) = ⊥
KeyOwns (keys.TagBlake2s k) (inspectors.TagBlake2s i) = i.secret ≡ k.inspector.secret
KeyOwns (keys.TagBlake2s k) (inspectors.Lms i) = ⊥
KeyOwns (keys.Lms k) (inspectors.TagSha256 i) = ⊥
KeyOwns (keys.Lms k) (inspectors.TagBlake2s i) = ⊥
KeyOwns (keys.Lms k) (inspectors.Lms i) = (i.id ≡ k.id) × (i.root ≡ lms_root sha256_of k.id k.seed)
