-- How a key stands in a file. Assumes nothing.
use Rattle.std.specs.Prelude.{ℕ, ◌+◌, Bool, cond, [], ◌∷◌, ◌++◌, length, Some, None, codes, decimal, Option, ◌==◌}
use Rattle.std.specs.List.{before_first, position_or_len}
use Rattle.std.specs.Option.{option_map, option_and_then}
use Rattle.std.specs.Str.{bytes_eq}
use Rattle.scripts.specs.Words.{Bytes, entry_at}
use Rattle.scripts.specs.Hex.{array_of, hex_text}
use Rattle.scripts.specs.Reading.{next_as, last_as}
use Rattle.told.specs.Algorithms.{algorithm_name}
use Rattle.keyfiles.specs.Words.{key_kind_of, key_by}
use Rattle.keyfiles.specs.declared.file.FileKind.{FileKind}
use Rattle.keyfiles.specs.declared.file.FileKind.TheVariants as kinds
use Rattle.keyfiles.specs.declared.file.KeyFile.{KeyFile}
use Rattle.keyfiles.specs.declared.file.KeyFile.TheVariants.{Key, Public}
use Rattle.keyfiles.specs.declared.words.KeyWords.TheVariants.{Tag, Lms}

-- whether a word is this one
abbrev pub word_is : Bytes → Bytes → Option (Unit {0})
word_is name = entry_at ((name, tt) ∷ [])

-- the first word of a key in a file: that of a script's key, or that of a public part
abbrev pub file_kind_of : Bytes → Option FileKind
file_kind_of word = cond (bytes_eq word (codes "lms-public")) (Some kinds.Public) (option_map kinds.Key (key_kind_of word))

-- the identifier of 16 bytes, and the root of 32
abbrev pub public_told : Option Bytes → Option KeyFile
public_told = next_as (array_of 16) (λ id. last_as (array_of 32) (λ root. Public (record { id = id; root = root })))

-- the words behind it
abbrev pub file_by : FileKind → Option Bytes → Option KeyFile
file_by (kinds.Key kind) rest = option_map Key (key_by kind rest)
file_by kinds.Public rest = public_told rest

-- the key that a file's line tells
abbrev pub key_line_told : Bytes → Option KeyFile
key_line_told line = next_as (word_is (codes "nazkoiber")) (λ _. next_as (word_is (codes "key")) (λ _. next_as file_kind_of file_by)) (Some line)

abbrev pub ends_line : ℕ → Bool
ends_line b = b == 10

-- the line of a text that is one line: the text's first byte 0A is its last byte
unfoldable pub only_line : Bytes → Option Bytes
only_line text = cond (position_or_len ends_line text + 1 == length text) (Some (before_first ends_line text)) None

-- the key that a file tells, if it tells one
unfoldable pub key_file_told : Bytes → Option KeyFile
key_file_told file = option_and_then key_line_told (only_line file)

-- the line of a key
abbrev pub key_line : KeyFile → Bytes
key_line (Key (Tag w)) =
    codes "nazkoiber key tag " ++ (algorithm_name w.digest ++ (codes " " ++ (hex_text w.secret ++ (codes " " ++ (hex_text w.name ++ (codes " " ++ decimal w.next))))))
key_line (Key (Lms w)) = codes "nazkoiber key lms " ++ (hex_text w.id ++ (codes " " ++ (hex_text w.seed ++ (codes " " ++ decimal w.next))))
key_line (Public w) = codes "nazkoiber key lms-public " ++ (hex_text w.id ++ (codes " " ++ hex_text w.root))

-- its file
abbrev pub key_file_text : KeyFile → Bytes
key_file_text k = key_line k ++ 10 ∷ []
