-- What the words behind a command say. Assumes nothing.
use Rattle.std.specs.Prelude.{◌≡◌, ℕ, Bool, true, false, cond, List, [], ◌∷◌, Some, None, Ok, Err, codes, length, fold, slice_get, ◌==◌, nat_eq, Option, Result}
use Rattle.std.specs.Borrow.{Bor}
use Rattle.std.specs.List.{starts_with, list_any, list_all}
use Rattle.std.specs.Option.{ok_or}
use Rattle.std.specs.Str.{bytes_eq}
use Rattle.scripts.specs.Words.{Bytes, number_of}
use Rattle.told.specs.Algorithms.{algorithm_of}
use Rattle.told.specs.declared.algorithm.Algorithm.{Algorithm}
use Rattle.told.specs.declared.algorithm.Algorithm.TheVariants.{Sha256}
use Rattle.commands.specs.Choices.{WordList}
use Rattle.commands.specs.declared.command.Command.{Command}
use Rattle.commands.specs.declared.misuse.Misuse.TheVariants.{LackingWord, NoSuchOption, WordCount, NotANumber, NoSuchDigest}
use Rattle.commands.specs.declared.usage.Page.TheVariants.{Of}
use Rattle.commands.specs.declared.problem.Problem.{Problem}
use Rattle.commands.specs.declared.problem.Problem.TheVariants.{Usage, OutOfMemory}
use Rattle.commands.specs.declared.words.Words.{Words}

-- options by their names, each with the word behind it
abbrev pub OptionList : Type 0
OptionList = List (Bor Bytes × Bor Bytes)

-- what a command works on, and its options
pub record Reading : Type 0 where
  pub command : Command
  pub operands : WordList
  pub options : OptionList

abbrev pub reading_of : Words → Reading
reading_of w = record { command = w.command; operands = w.operands.items; options = w.options.items }

abbrev pub is_option : Bytes → Bool
is_option word = starts_with nat_eq word (codes "--")

-- Behind an option stands its word, whatever it is. Each of these begins with the option whose word is still to come, if there is one.
abbrev pub operands_of : Option (Bor Bytes) → WordList → WordList
operands_of name [] = []
operands_of (Some name) (word ∷ words) = operands_of None words
operands_of None (word ∷ words) = cond (is_option word.now) (operands_of (Some word) words) (word ∷ operands_of None words)

abbrev pub options_of : Option (Bor Bytes) → WordList → OptionList
options_of name [] = []
options_of (Some name) (word ∷ words) = (name, word) ∷ options_of None words
options_of None (word ∷ words) = cond (is_option word.now) (options_of (Some word) words) (options_of None words)

-- the last option has no word
abbrev pub lacks_word : Option (Bor Bytes) → WordList → Bool
lacks_word None [] = false
lacks_word (Some name) [] = true
lacks_word (Some name) (word ∷ words) = lacks_word None words
lacks_word None (word ∷ words) = cond (is_option word.now) (lacks_word (Some word) words) (lacks_word None words)

-- the words are split so, but memory may be short
abbrev pub Splits : Command → WordList → Result Words Problem → Type 0
Splits command words (Ok w) = (lacks_word None words ≡ false) × (reading_of w ≡ record { command = command; operands = operands_of None words; options = options_of None words })
Splits command words (Err OutOfMemory) = Unit {0}
Splits command words (Err problem) = (lacks_word None words ≡ true) × (problem ≡ Usage LackingWord (Of command))

abbrev pub is_among : WordList → Bytes → Bool
is_among names name = list_any (λ n. bytes_eq n.now name) names

-- an option is looked at first
abbrev pub expected : Reading → ℕ → WordList → Result Unit Problem
expected r count names =
    cond (list_all (λ o. is_among names o.0.now) r.options)
    (cond (length r.operands == count) (Ok tt) (Err (Usage WordCount (Of r.command))))
    (Err (Usage NoSuchOption (Of r.command)))

abbrev pub now_or_empty : Option (Bor Bytes) → Bytes
now_or_empty None = []
now_or_empty (Some word) = word.now

abbrev pub word_at : Reading → ℕ → Bytes
word_at r place = now_or_empty (slice_get r.operands place)

-- the last option of a name counts
abbrev pub value_of : Bytes → Reading → Option (Bor Bytes)
value_of name r = fold (λ found o. cond (bytes_eq o.0.now name) (Some o.1) found) None r.options

abbrev pub number_said : Command → Bytes → Result ℕ Problem
number_said command word = ok_or (number_of word 65535) (Usage NotANumber (Of command))

-- SHA-256, where no option names a digest
abbrev pub digest_by : Command → Option (Bor Bytes) → Result Algorithm Problem
digest_by command None = Ok Sha256
digest_by command (Some word) = ok_or (algorithm_of word.now) (Usage NoSuchDigest (Of command))

abbrev pub digest_said : Reading → Result Algorithm Problem
digest_said r = digest_by r.command (value_of (codes "--digest") r)
