-- Tag keys: the signature is the HMAC of the text. Assumes nothing.
use Rattle.std.specs.Prelude.{ℕ, ◌-◌, Bool, [], ◌∷◌, Result, nat_lt}
use Rattle.answers.specs.declared.Refusal.{Refusal}
use Rattle.answers.specs.declared.Refusal.TheVariants.{NoSuchParameter}
use Rattle.answers.specs.Refusals.{unless}
use Rattle.digests.specs.Hmac.{hmac_of}
use Rattle.digests.specs.Strings.{Bytes, same}
use Rattle.keys.specs.Key.{Key}

-- how many numbers a key has
abbrev pub tag_limit : ℕ
tag_limit = 1000000

-- yes means an equal tag
abbrev pub tag_says : (Bytes → Bytes) → ℕ → Bytes → Bytes → Bytes → Bool
tag_says digest block secret text signature = same signature (hmac_of digest block secret text)

-- the key of that name whose next number is this one
abbrev pub tag_key : Bytes → ℕ → Key
tag_key name next = record { name = name; next = next; left = tag_limit - next; size = 32 }

-- making a key from its secret, its name and its next number
abbrev pub tag_key_answer : Bytes → Bytes → ℕ → Result (Bytes × Key) Refusal
tag_key_answer secret name next = unless ((nat_lt tag_limit next, NoSuchParameter) ∷ []) (secret, tag_key name next)
