-- What lines ask of LMS keys. Assumes nothing.
use Rattle.std.specs.Prelude.{ℕ, Bool, ◌++◌, take, drop, codes, Option}
use Rattle.sha256.specs.Sha256.{sha256_of}
use Rattle.lms.specs.Lms.{public_key, lms_root, lms_sign, lms_says}
use Rattle.scripts.specs.Words.{Bytes, number_of}
use Rattle.scripts.specs.Hex.{hex_bytes, hex_text, array_of}
use Rattle.scripts.specs.Reading.{next_as, last_as}
use Rattle.vectors.specs.Tags.{drawn_of, says_text}

-- a leaf of the tree
abbrev pub leaf_of : Bytes → Option ℕ
leaf_of word = number_of word 31

abbrev pub root_text : Bytes → Bytes
root_text root = codes "root " ++ hex_text root

abbrev pub signature_text : Bytes → Bytes
signature_text signature = codes "signature " ++ hex_text signature

-- the public part whose bytes are the identifier and then the root
abbrev pub says_of : Bytes → ℕ → Bytes → Bytes → Bool
says_of public number text signature = lms_says sha256_of (public_key (take 16 public) (drop 16 public)) number text signature

-- the identifier's 16 bytes, and the seed's 32
abbrev pub root_answer : Option Bytes → Option Bytes
root_answer =
    next_as (array_of 16) (λ id.
    last_as (array_of 32) (λ seed. root_text (lms_root sha256_of id seed)))

-- the identifier's 16 bytes, the seed's 32, a leaf, and the text
abbrev pub sign_answer : Option Bytes → Option Bytes
sign_answer =
    next_as (array_of 16) (λ id.
    next_as (array_of 32) (λ seed.
    next_as leaf_of (λ leaf.
    last_as hex_bytes (λ text. signature_text (lms_sign sha256_of id seed leaf text)))))

-- the public part's 48 bytes, a number, the text, and the signature
abbrev pub verify_answer : Option Bytes → Option Bytes
verify_answer =
    next_as (array_of 48) (λ public.
    next_as drawn_of (λ number.
    next_as hex_bytes (λ text.
    last_as hex_bytes (λ signature. says_text (says_of public number text signature)))))
