-- Block and row numbers as values. Assumes nothing.
use Rattle.std.specs.Prelude.{ℕ}
use Rattle.answers.specs.declared.BlockNumber.{BlockNumber}
use Rattle.answers.specs.declared.RowNumber.{RowNumber}

abbrev pub block_number : ℕ → BlockNumber
block_number n = record { 0 = n }

abbrev pub row_number : ℕ → RowNumber
row_number n = record { 0 = n }
