-- What a family answers, and its law. Assumes nothing.
use Rattle.std.specs.Prelude.{◌≡◌, ℕ, ◌+◌, ◌-◌, ◌≤◌, Bool, true, List, Option}
use Rattle.std.specs.Option.{option_map}
use Rattle.answers.specs.declared.BlockNumber.{BlockNumber}
use Rattle.answers.specs.Numbers.{block_number}
use Rattle.families.specs.Family.{CoverFree}
use Rattle.families.specs.Numbers.{lowest, numbers, keep_where}

-- everything that a family answers
pub record Shape : Type 0 where
  pub kind : ℕ
  pub q : ℕ
  pub k : ℕ
  -- how many blocks, n, how many rows, t, and how many changed blocks the rows tell apart, d
  pub blocks : ℕ
  pub rows : ℕ
  pub strength : ℕ
  -- whether a row holds a block, the row first
  pub holds : ℕ → ℕ → Bool

-- the law of a family
pub record Lawful (f : Shape) : Type 0 where
  pub kind_range : (1 ≤ f.kind) × (f.kind ≤ 255)
  pub q_range : f.q ≤ 255
  pub k_range : f.k ≤ 255
  pub blocks_range : (1 ≤ f.blocks) × (f.blocks ≤ 512)
  pub rows_range : (1 ≤ f.rows) × (f.rows ≤ 512)
  pub strength_range : (1 ≤ f.strength) × (f.strength ≤ 512)
  -- yes only for rows from 1 to t and blocks from 1 to n
  pub inside : (i j : ℕ) → f.holds i j ≡ true → (1 ≤ i) × (i ≤ f.rows) × (1 ≤ j) × (j ≤ f.blocks)
  pub covers : CoverFree f.blocks f.rows f.strength f.holds

-- the lowest block above another that a row holds
abbrev pub next_held : Shape → ℕ → ℕ → Option BlockNumber
next_held f row after = option_map block_number (lowest (f.holds row) (after + 1) (f.blocks - after))

-- the blocks above another that a row holds, rising
unfoldable pub held_after : Shape → ℕ → ℕ → List ℕ
held_after f row after = keep_where (f.holds row) (numbers (after + 1) (f.blocks - after))

-- all blocks that a row holds
abbrev pub row_list : Shape → ℕ → List ℕ
row_list f row = held_after f row 0
