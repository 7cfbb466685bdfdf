-- A table of flags, one for each block: those that a passing row has cleared. Assumes nothing.
use Rattle.std.specs.Prelude.{ℕ, ◌-◌, Bool, false, not, List, slice_index_or}
use Rattle.families.specs.Numbers.{numbers, keep_where}

-- block j is cleared
abbrev pub is_cleared : List Bool → ℕ → Bool
is_cleared cleared j = slice_index_or cleared (j - 1) false

-- the blocks from 1 to n that are not, rising
unfoldable pub uncleared : List Bool → ℕ → List ℕ
uncleared cleared n = keep_where (λ j. not (is_cleared cleared j)) (numbers 1 n)
