-- How a block is shown to people. Assumes nothing.
use Rattle.std.specs.Prelude.{ℕ, ◌+◌, ◌-◌, Bool, cond, ◌&&◌, List, [], ◌∷◌, ◌++◌, length, take, codes, decimal, ◌==◌, nat_le, slice_index}
use Rattle.std.specs.List.{list_all}
use Rattle.sheets.specs.Table.{Bytes}

-- a block without a last byte 0A
unfoldable pub line_of : Bytes → Bytes
line_of b = cond (slice_index b (length b - 1) == 10) (take (length b - 1) b) b

-- from the space to the tilde
abbrev pub is_printable : ℕ → Bool
is_printable x = nat_le 32 x && nat_le x 126

-- a line, if it is text
unfoldable pub shown : Bytes → Bytes
shown line = cond (list_all is_printable line) line (codes "(not text)")

-- a line behind its block's length
abbrev pub behind_length : Bytes → Bytes
behind_length [] = codes "\n"
behind_length (x ∷ xs) = codes " " ++ (shown (x ∷ xs) ++ codes "\n")

-- a block's number, its length and its text
abbrev pub block_line : ℕ → Bytes → Bytes
block_line j b = decimal j ++ (codes " " ++ (decimal (length b) ++ behind_length (line_of b)))

-- a line for each block, the first with number j
unfoldable pub block_lines : ℕ → List Bytes → Bytes
block_lines j [] = []
block_lines j (b ∷ bs) = block_line j b ++ block_lines (j + 1) bs
