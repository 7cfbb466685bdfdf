-- What lines ask of tag keys. Assumes nothing.
use Rattle.std.specs.Prelude.{ℕ, Bool, cond, [], ◌∷◌, ◌++◌, Ok, Err, codes, decimal, Option, Result, ◌==◌}
use Rattle.answers.specs.declared.Refusal.{Refusal}
use Rattle.answers.specs.declared.Refusal.TheVariants.{NoneLeft}
use Rattle.answers.specs.Refusals.{unless}
use Rattle.digests.specs.Hmac.{hmac_of}
use Rattle.keys.specs.Key.{Key, drawn_once}
use Rattle.keys.specs.Tag.{tag_says, tag_key_answer}
use Rattle.scripts.specs.Words.{Bytes, number_of}
use Rattle.scripts.specs.Hex.{hex_bytes, hex_text}
use Rattle.scripts.specs.Reading.{next_as, last_as}
use Rattle.told.specs.Texts.{text_of}
use Rattle.told.specs.Algorithms.{algorithm_of, digest_by}
use Rattle.scripts.specs.Hex.{array_of}
use Rattle.vectors.specs.declared.tag.Signed.{Signed}

-- the number that a key draws, a tag under it, and how many numbers are left then
abbrev pub signed_by : Bytes → Key → Result Signed Refusal
signed_by tag key = unless (((key.left == 0), NoneLeft) ∷ []) (record { number = key.next; tag = tag; left = (drawn_once key).left })

-- the same of a key that is made first
abbrev pub signed_after : Bytes → Result (Bytes × Key) Refusal → Result Signed Refusal
signed_after tag (Ok made) = signed_by tag made.1
signed_after tag (Err e) = Err e

abbrev pub signed_answer : (Bytes → Bytes) → ℕ → Bytes → Bytes → ℕ → Bytes → Result Signed Refusal
signed_answer digest block secret name next text = signed_after (hmac_of digest block secret text) (tag_key_answer secret name next)

abbrev pub signed_text : Signed → Bytes
signed_text s = codes "tag " ++ (decimal s.number ++ (codes " " ++ (hex_text s.tag ++ (codes " " ++ decimal s.left))))

abbrev pub says_text : Bool → Bytes
says_text says = cond says (codes "yes") (codes "no")

-- a number that a key may have drawn
abbrev pub drawn_of : Bytes → Option ℕ
drawn_of word = number_of word 4294967295

-- the digest's name, the key's 32 bytes, its name's 8, its next number, and the text
abbrev pub tag_answer : Option Bytes → Option Bytes
tag_answer =
    next_as algorithm_of (λ a.
    next_as (array_of 32) (λ secret.
    next_as (array_of 8) (λ name.
    next_as drawn_of (λ next.
    last_as hex_bytes (λ text. text_of signed_text (signed_answer (digest_by a) 64 secret name next text))))))

-- the digest's name, the key's 32 bytes, a number, the text, and the signature
abbrev pub inspect_answer : Option Bytes → Option Bytes
inspect_answer =
    next_as algorithm_of (λ a.
    next_as (array_of 32) (λ secret.
    next_as drawn_of (λ number.
    next_as hex_bytes (λ text.
    last_as hex_bytes (λ signature. says_text (tag_says (digest_by a) 64 secret text signature))))))
