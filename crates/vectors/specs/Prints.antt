-- What lines print. Assumes nothing.
use Rattle.std.specs.Prelude.{cond, [], ◌∷◌, ◌++◌, Some, None, codes, Option}
use Rattle.std.specs.List.{flat_map}
use Rattle.scripts.specs.Words.{Bytes}
use Rattle.scripts.specs.Lines.{silent, parts_behind}
use Rattle.vectors.specs.Verbs.{line_answer}

-- a line's answer
abbrev pub shown : Option Bytes → Bytes
shown None = codes "not understood"
shown (Some text) = text

unfoldable pub line_text : Bytes → Bytes
line_text line = cond (silent line) [] (shown (line_answer line) ++ 10 ∷ [])

-- what is printed for the lines of an input, each of which but the last ends before a byte 0A
unfoldable pub input_text : Bytes → Bytes
input_text input = flat_map line_text (parts_behind 10 [] input)
