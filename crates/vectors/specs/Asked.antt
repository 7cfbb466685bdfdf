-- What words ask of a digest. Assumes nothing.
use Rattle.std.specs.Prelude.{ℕ, Some, None, Option}
use Rattle.std.specs.List.{flat_map}
use Rattle.std.specs.Option.{option_map}
use Rattle.digests.specs.Hmac.{hmac_of}
use Rattle.scripts.specs.Words.{Bytes, first_word, behind_word, number_of}
use Rattle.scripts.specs.Hex.{both, bytes_in, array_of}
use Rattle.vectors.specs.Pieced.{words_pieces, repeated}
use Rattle.vectors.specs.declared.digest.Question.{Question}
use Rattle.vectors.specs.declared.digest.Question.TheVariants.{Digest, Hmac, Repeat}

-- the digest of all pieces together
abbrev pub words_answer : (Bytes → Bytes) → Option Bytes → Option Bytes
words_answer digest None = None
words_answer digest (Some words) = option_map (λ ps. digest (flat_map (λ p. p) ps)) (words_pieces words)

-- a key of 32 bytes and a text
abbrev pub hmac_answer : (Bytes → Bytes) → ℕ → Option Bytes → Option Bytes
hmac_answer digest block None = None
hmac_answer digest block (Some words) = both (hmac_of digest block) (array_of 32 (first_word words)) (bytes_in (behind_word words))

-- a count, of at most a million, and a piece
abbrev pub repeat_answer : (Bytes → Bytes) → Option Bytes → Option Bytes
repeat_answer digest None = None
repeat_answer digest (Some words) = both (λ n piece. digest (repeated n piece)) (number_of (first_word words) 1000000) (bytes_in (behind_word words))

-- the answer to a question
abbrev pub question_answer : Question → (Bytes → Bytes) → ℕ → Option Bytes → Option Bytes
question_answer Digest digest block words = words_answer digest words
question_answer Hmac digest block words = hmac_answer digest block words
question_answer Repeat digest block words = repeat_answer digest words
