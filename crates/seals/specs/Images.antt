-- The strings that are digested: framed blocks, row images and the whole image. Assumes nothing.
use Rattle.std.specs.Prelude.{ℕ, suc, ◌/◌, ◌%◌, Bool, true, cond, not, ◌&&◌, List, [], ◌∷◌, ◌++◌, length, ◌==◌, nat_le, ◌+◌}
use Rattle.digests.specs.Strings.{Bytes}

-- a number below 65,536, highest byte first
abbrev pub two_bytes : ℕ → Bytes
two_bytes x = x / 256 % 256 ∷ (x % 256 ∷ [])

-- block j with its number and its length in front
abbrev pub framed : ℕ → Bytes → Bytes
framed j b = two_bytes j ++ (two_bytes (length b) ++ b)

-- the blocks that are kept, framed, in rising order; the list's first block has number j
unfoldable pub framed_blocks : (ℕ → Bool) → ℕ → List Bytes → Bytes
framed_blocks keep j [] = []
framed_blocks keep j (b ∷ bs) = cond (keep j) (framed j b) [] ++ framed_blocks keep (suc j) bs

-- row i: 1, its number, and its blocks framed
unfoldable pub row_image : (ℕ → ℕ → Bool) → ℕ → List Bytes → Bytes
row_image holds i bs = 1 ∷ (two_bytes i ++ framed_blocks (holds i) 1 bs)

-- the whole: 2, the count of blocks, and all blocks framed
unfoldable pub whole_image : List Bytes → Bytes
whole_image bs = 2 ∷ (two_bytes (length bs) ++ framed_blocks (λ _. true) 1 bs)

-- what stands beside block j in row i
unfoldable pub row_rest : (ℕ → ℕ → Bool) → ℕ → ℕ → List Bytes → Bytes
row_rest holds i j bs = framed_blocks (λ m. holds i m && not (m == j)) 1 bs

-- a block of so many bytes can be framed, and fits behind a place of a buffer
unfoldable pub frame_fits : ℕ → ℕ → ℕ → Bool
frame_fits place size room = nat_le size 65535 && nat_le (place + 4 + size) room
