-- What a sheet means: its list of blocks. Assumes nothing.
use Rattle.std.specs.Prelude.{◌≡◌, ℕ, ◌-◌, ◌≤◌, List, ◌∷◌, Ok, vec_items, slice_index, slice_range}
use Rattle.sheets.specs.declared.sheet.Sheet.{Sheet}
use Rattle.sheets.specs.Table.{Bytes, pieces}
use Rattle.sheets.specs.Calls.{total_bytes, block_answer}

abbrev pub blocks_of : Sheet → List Bytes
blocks_of s = pieces 0 (vec_items s.ends) (vec_items s.bytes)

-- block j stands in the sheet's bytes from one place to another: from the end before it, or 0, to its own
pub record Stands (s : Sheet) (j from to : ℕ) : Type 0 where
  pub forward : from ≤ to
  pub inside : to ≤ total_bytes (blocks_of s)
  pub from_is : from ≡ slice_index (0 ∷ vec_items s.ends) (j - 1)
  pub to_is : to ≡ slice_index (vec_items s.ends) (j - 1)
  pub block_is : Ok (slice_range (vec_items s.bytes) from to) ≡ block_answer (blocks_of s) j
