-- How words tell a key. Assumes nothing.
use Rattle.std.specs.Prelude.{ℕ, [], ◌∷◌, codes, Option}
use Rattle.scripts.specs.Words.{Bytes, entry_at, number_of}
use Rattle.scripts.specs.Hex.{array_of}
use Rattle.scripts.specs.Reading.{next_as, last_as}
use Rattle.told.specs.Algorithms.{algorithm_of}
use Rattle.keyfiles.specs.declared.words.KeyKind.{KeyKind}
use Rattle.keyfiles.specs.declared.words.KeyKind.TheVariants as kinds
use Rattle.keyfiles.specs.declared.words.KeyWords.{KeyWords}
use Rattle.keyfiles.specs.declared.words.KeyWords.TheVariants.{Tag, Lms}

-- the word for each kind of key
abbrev pub key_kind_of : Bytes → Option KeyKind
key_kind_of = entry_at ((codes "tag", kinds.Tag) ∷ ((codes "lms", kinds.Lms) ∷ []))

-- the next number of a key, as a word
abbrev pub next_of : Bytes → Option ℕ
next_of word = number_of word 4294967295

-- the digest's name, the key's 32 bytes, its name's 8, and its next number
abbrev pub tag_told : Option Bytes → Option KeyWords
tag_told =
    next_as algorithm_of (λ a.
    next_as (array_of 32) (λ secret.
    next_as (array_of 8) (λ name. last_as next_of (λ next. Tag (record { digest = a; secret = secret; name = name; next = next })))))

-- the key's 16 bytes of identifier, its 32 of seed, and its next number
abbrev pub lms_told : Option Bytes → Option KeyWords
lms_told = next_as (array_of 16) (λ id. next_as (array_of 32) (λ seed. last_as next_of (λ next. Lms (record { id = id; seed = seed; next = next }))))

-- the words of a kind of key
abbrev pub key_by : KeyKind → Option Bytes → Option KeyWords
key_by kinds.Tag rest = tag_told rest
key_by kinds.Lms rest = lms_told rest

-- the key that words tell, if they tell one
abbrev pub key_told : Option Bytes → Option KeyWords
key_told = next_as key_kind_of key_by
