-- The texts that programs print of a sheet. Assumes nothing.
use Rattle.std.specs.Prelude.{ℕ, ◌+◌, List, [], ◌∷◌, ◌++◌, length, Ok, Err, codes, decimal, Result}
use Rattle.answers.specs.declared.Refusal.{Refusal}
use Rattle.answers.specs.Refusals.{shown_as}
use Rattle.sheets.specs.Table.{Bytes}
use Rattle.sheets.specs.Calls.{text_lines, cut_answer}

abbrev pub newline : Bytes
newline = 10 ∷ []

-- one block's line: its number and its length
abbrev pub block_line : ℕ → Bytes → Bytes
block_line j b = decimal j ++ (codes " " ++ (decimal (length b) ++ newline))

-- a line for each block, the first with number j
unfoldable pub block_lines : ℕ → List Bytes → Bytes
block_lines j [] = []
block_lines j (b ∷ bs) = block_line j b ++ block_lines (j + 1) bs

-- the count of blocks, and a line for each
abbrev pub sheet_report : List Bytes → Bytes
sheet_report bs = (codes "blocks " ++ (decimal (length bs) ++ newline)) ++ block_lines 1 bs

-- the report of a call: the good one, or the line of its refusal
abbrev pub report_of : Result ℕ Refusal → Bytes → Bytes
report_of (Ok n) good = good
report_of (Err e) good = shown_as e ++ newline

-- the report of a text that is cut into a new sheet
abbrev pub text_report : Bytes → Bytes
text_report text = report_of (cut_answer [] text) (sheet_report (text_lines text))
