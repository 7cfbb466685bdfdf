-- What a key at hand is, and what making one of its words answers. Assumes nothing.
use Rattle.std.specs.Prelude.{ℕ, Bool, Result}
use Rattle.std.specs.Result.{result_map_both}
use Rattle.answers.specs.declared.Refusal.{Refusal}
use Rattle.digests.specs.Hmac.{hmac_of}
use Rattle.keys.specs.Key.{Key}
use Rattle.keys.specs.Tag.{tag_says, tag_key_answer}
use Rattle.lms.specs.Key.{lms_key_answer}
use Rattle.lms.specs.Lms.{public_key, lms_root, lms_sign, lms_says}
use Rattle.scripts.specs.Words.{Bytes}
use Rattle.sha256.specs.Sha256.{sha256_of}
use Rattle.told.specs.Algorithms.{digest_by}
use Rattle.keyfiles.specs.Keys.{key_kind, key_says, key_of, key_signature}
use Rattle.keyfiles.specs.declared.key.AnyKey.{AnyKey}
use Rattle.keyfiles.specs.declared.words.KeyWords.{KeyWords}
use Rattle.keyfiles.specs.declared.words.KeyWords.TheVariants.{Tag, Lms}

-- a key that is at hand: what it says to signatures, what it signs, and its numbers
pub record Held : Type 0 where
  pub kind : ℕ
  pub says : ℕ → Bytes → Bytes → Bool
  pub signature : ℕ → Bytes → Bytes
  pub key : Key

abbrev pub held : AnyKey → Held
held k = record { kind = key_kind k; says = key_says k; signature = key_signature k; key = key_of k }

-- the kind of a key that words tell
abbrev pub words_kind : KeyWords → ℕ
words_kind (Tag w) = 1
words_kind (Lms w) = 2

-- what it says to signatures
abbrev pub words_says : KeyWords → ℕ → Bytes → Bytes → Bool
words_says (Tag w) number text signature = tag_says (digest_by w.digest) 64 w.secret text signature
words_says (Lms w) number text signature = lms_says sha256_of (public_key w.id (lms_root sha256_of w.id w.seed)) number text signature

-- what it signs
abbrev pub words_signature : KeyWords → ℕ → Bytes → Bytes
words_signature (Tag w) number text = hmac_of (digest_by w.digest) 64 w.secret text
words_signature (Lms w) number text = lms_sign sha256_of w.id w.seed number text

-- the key of those words, with its numbers
abbrev pub held_by : KeyWords → Key → Held
held_by w numbers = record { kind = words_kind w; says = words_says w; signature = words_signature w; key = numbers }

-- making a key
abbrev pub key_answer : KeyWords → Result Held Refusal
key_answer (Tag w) = result_map_both (λ made. held_by (Tag w) made.1) (λ e. e) (tag_key_answer w.secret w.name w.next)
key_answer (Lms w) = result_map_both (λ made. held_by (Lms w) made.2) (λ e. e) (lms_key_answer w.id w.seed w.next)
