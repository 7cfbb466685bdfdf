-- What a caller names by numbers and slices: a tag key. Assumes nothing.
use Rattle.std.specs.Prelude.{ℕ, not, [], ◌∷◌, length, Ok, Result, ◌==◌}
use Rattle.std.specs.Option.{ok_or}
use Rattle.answers.specs.declared.Refusal.{Refusal}
use Rattle.answers.specs.declared.Refusal.TheVariants.{NoSuchParameter}
use Rattle.answers.specs.Refusals.{unless, on_ok}
use Rattle.desk.specs.Named.{digest_numbered}
use Rattle.digests.specs.Strings.{Bytes}
use Rattle.keyfiles.specs.declared.words.KeyWords.{KeyWords}
use Rattle.keyfiles.specs.declared.words.KeyWords.TheVariants.{Tag}
use Rattle.keys.specs.Tag.{tag_says}
use Rattle.seals.specs.Scheme.{Inspection, inspection}
use Rattle.told.specs.Algorithms.{digest_by}
use Rattle.told.specs.declared.algorithm.Algorithm.{Algorithm}

-- bytes of just this length
abbrev pub exactly : ℕ → Bytes → Result Bytes Refusal
exactly n bytes = unless ((not (length bytes == n), NoSuchParameter) ∷ []) bytes

-- the digest and the secret of a tag key
abbrev pub key_answer : ℕ → Bytes → Result (Algorithm × Bytes) Refusal
key_answer kind secret = on_ok (ok_or (digest_numbered kind) NoSuchParameter) (λ a. on_ok (exactly 32 secret) (λ b. Ok (a, b)))

-- what such a key says to signatures
abbrev pub inspection_by : Algorithm × Bytes → Inspection
inspection_by key = inspection 1 (λ _. tag_says (digest_by key.0) 64 key.1)

-- its digest, and in words that key with a name and the number that it draws next
abbrev pub words_answer : ℕ → Bytes → Bytes → ℕ → Result (Algorithm × KeyWords) Refusal
words_answer kind secret name next =
    on_ok (key_answer kind secret) (λ key.
    on_ok (exactly 8 name) (λ called.
    Ok (key.0, Tag (record { digest = key.0; secret = key.1; name = called; next = next }))))
