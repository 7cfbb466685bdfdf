-- What is told of a refusal. Assumes nothing.
use Rattle.std.specs.Prelude.{ℕ, List, [], ◌∷◌, ◌++◌, codes, decimal}
use Rattle.answers.specs.declared.Refusal.{Refusal}
use Rattle.answers.specs.Refusals.{number_of, reason_of, values_of}
use Rattle.sheets.specs.Table.{Bytes}

-- behind the words; the one value that a refusal can carry is a count of suspects
abbrev pub behind_words : List ℕ → Bytes
behind_words [] = codes "\n"
behind_words (count ∷ more) = codes " (" ++ (decimal count ++ codes " suspects)\n")

-- its number, its words and its count
unfoldable pub refusal_text : Refusal → Bytes
refusal_text r = codes "refused " ++ (decimal (number_of r) ++ (codes ": " ++ (reason_of r ++ behind_words (values_of r))))
