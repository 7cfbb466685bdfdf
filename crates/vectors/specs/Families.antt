-- What lines ask of families. Assumes nothing.
use Rattle.std.specs.Prelude.{ℕ, Option}
use Rattle.std.specs.Option.{option_map}
use Rattle.families.specs.Choice.{choose_answer}
use Rattle.scripts.specs.Words.{Bytes}
use Rattle.scripts.specs.Reading.{next_as, last_as}
use Rattle.told.specs.Names.{count_of, family_named, name_answer}
use Rattle.told.specs.Texts.{family_text, rows_text, text_of}

-- a family's name
abbrev pub family_answer : Option Bytes → Option Bytes
family_answer words = option_map (λ name. text_of family_text (name_answer name)) (family_named words)

-- the rows of a block, in the family that words name
abbrev pub rows_named : ℕ → Option Bytes → Option Bytes
rows_named block words = option_map (λ name. text_of (λ f. rows_text f block) (name_answer name)) (family_named words)

-- a block's number, and a family's name
abbrev pub rows_answer : Option Bytes → Option Bytes
rows_answer words = next_as count_of rows_named words

-- the family that is chosen for n blocks and strength d
unfoldable pub chosen_text : ℕ → ℕ → Bytes
chosen_text n d = text_of family_text (choose_answer n d)

-- a count of blocks, and a strength
abbrev pub choice_answer : Option Bytes → Option Bytes
choice_answer words = next_as count_of (λ n. last_as count_of (chosen_text n)) words
