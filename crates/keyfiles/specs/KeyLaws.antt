-- A key of any kind keeps the laws of a sealer.
use Rattle.std.specs.Prelude.{◌≡◌, ℕ, ◌<◌, ◌≤◌, true, ◌++◌, length}
use Rattle.std.proofs.Common.{arith, refl}
use Rattle.blake2s.specs.Blake2s.{blake2s}
use Rattle.blake2s.specs.Chains.{blake2s_length}
use Rattle.digests.specs.Hmac.{padded, hmac_of}
use Rattle.digests.specs.Strings.{Bytes}
use Rattle.keys.specs.Key.{LawfulKey}
use Rattle.keys.specs.Same.{same_self}
use Rattle.lms.specs.KeyLaw as lms_laws
use Rattle.std.proofs.lemmas.List.{length-take-le}
use Rattle.sha256.specs.Sha256.{sha256_of}
use Rattle.sha256.specs.Hashed.{length_sha256_of}
use Rattle.keyfiles.specs.declared.key.AnyInspector.{AnyInspector}
use Rattle.keyfiles.specs.declared.key.AnyInspector.TheVariants as inspectors
use Rattle.keyfiles.specs.declared.key.AnyKey.{AnyKey}
use Rattle.keyfiles.specs.declared.key.AnyKey.TheVariants as keys
use Rattle.keyfiles.specs.Keys.{inspector_kind, inspector_says, key_kind, key_says, key_of, key_signature, KeyOwns}

pub inspector_range : (i : AnyInspector) → (1 ≤ inspector_kind i) × (inspector_kind i ≤ 255)
inspector_range (inspectors.TagSha256 i) = (omega arith, omega arith)
inspector_range (inspectors.TagBlake2s i) = (omega arith, omega arith)
inspector_range (inspectors.Lms i) = (omega arith, omega arith)

pub key_range : (k : AnyKey) → (1 ≤ key_kind k) × (key_kind k ≤ 255)
key_range (keys.TagSha256 k) = (omega arith, omega arith)
key_range (keys.TagBlake2s k) = (omega arith, omega arith)
key_range (keys.Lms k) = (omega arith, omega arith)

pub key_lawful : (k : AnyKey) → LawfulKey (key_of k)
key_lawful (keys.TagSha256 k) = record { eight_bytes = k.eight; numbers_fit = omega (arith, k.within); size_fits = omega arith }
key_lawful (keys.TagBlake2s k) = record { eight_bytes = k.eight; numbers_fit = omega (arith, k.within); size_fits = omega arith }
key_lawful (keys.Lms k) =
    record { eight_bytes = length-take-le 8 k.id (omega (arith, k.sixteen)); numbers_fit = omega (arith, k.within); size_fits = omega arith }

pub key_genuine : (k : AnyKey) (number : ℕ) (text : Bytes) → number < (key_of k).next → key_says k number text (key_signature k number text) ≡ true
key_genuine (keys.TagSha256 k) number text drawn = same_self (hmac_of sha256_of 64 k.inspector.secret text)
key_genuine (keys.TagBlake2s k) number text drawn = same_self (hmac_of blake2s 64 k.inspector.secret text)
key_genuine (keys.Lms k) number text drawn = lms_laws.key_signs k.id k.seed k.next number text k.sixteen k.within drawn

pub key_sized : (k : AnyKey) (number : ℕ) (text : Bytes) → length (key_signature k number text) ≡ (key_of k).size
key_sized (keys.TagSha256 k) number text = length_sha256_of (padded 0x5c 64 k.inspector.secret ++ sha256_of (padded 0x36 64 k.inspector.secret ++ text))
key_sized (keys.TagBlake2s k) number text = blake2s_length (padded 0x5c 64 k.inspector.secret ++ blake2s (padded 0x36 64 k.inspector.secret ++ text))
key_sized (keys.Lms k) number text = lms_laws.key_sized k.id k.seed number text

pub own_alike : (k : AnyKey) (i : AnyInspector) → KeyOwns k i → (inspector_kind i ≡ key_kind k) × (inspector_says i ≡ key_says k)
own_alike (keys.TagSha256 k) (inspectors.TagSha256 i) e = (refl, rw e refl)
own_alike (keys.TagSha256 k) (inspectors.TagBlake2s i) e = absurd e
own_alike (keys.TagSha256 k) (inspectors.Lms i) e = absurd e
own_alike (keys.TagBlake2s k) (inspectors.TagSha256 i) e = absurd e
own_alike (keys.TagBlake2s k) (inspectors.TagBlake2s i) e = (refl, rw e refl)
own_alike (keys.TagBlake2s k) (inspectors.Lms i) e = absurd e
own_alike (keys.Lms k) (inspectors.TagSha256 i) e = absurd e
own_alike (keys.Lms k) (inspectors.TagBlake2s i) e = absurd e
own_alike (keys.Lms k) (inspectors.Lms i) e = lms_laws.key_own_alike k.id k.seed i.id i.root e
