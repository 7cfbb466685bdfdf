-- What is told of a check. Assumes nothing.
use Rattle.std.specs.Prelude.{ℕ, List, [], ◌∷◌, ◌++◌, Ok, Err, codes, decimal, Result}
use Rattle.answers.specs.declared.Refusal.{Refusal}
use Rattle.sheets.specs.Table.{Bytes}
use Rattle.sheets.specs.Calls.{block_answer}
use Rattle.findings.specs.Head.{number_line}
use Rattle.findings.specs.Lines.{line_of, shown}

-- a line that stands alone
abbrev pub line_text : Bytes → Bytes
line_text [] = codes "(empty)"
line_text (x ∷ xs) = shown (x ∷ xs)

-- the present text of a block, if there is one
abbrev pub found_text : Result Bytes Refusal → Bytes
found_text (Ok b) = line_text (line_of b)
found_text (Err e) = codes "(no such block)"

unfoldable pub present_text : List Bytes → ℕ → Bytes
present_text bs j = found_text (block_answer bs j)

-- a changed block's number and its present text
unfoldable pub suspect_line : List Bytes → ℕ → Bytes
suspect_line bs j = codes "changed block " ++ (decimal j ++ (codes ": " ++ (present_text bs j ++ codes "\n")))

unfoldable pub suspect_lines : List Bytes → List ℕ → Bytes
suspect_lines bs [] = []
suspect_lines bs (j ∷ js) = suspect_line bs j ++ suspect_lines bs js

abbrev pub findings : List Bytes → List ℕ → Bytes
findings bs [] = codes "no block was changed\n"
findings bs (j ∷ js) = suspect_lines bs (j ∷ js)

-- the seal number, and what a check of these blocks named
unfoldable pub check_text : List Bytes → ℕ → List ℕ → Bytes
check_text bs number suspects = number_line number ++ findings bs suspects
