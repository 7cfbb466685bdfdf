-- The rows that pass. Assumes nothing.
use Rattle.std.specs.Prelude.{ℕ, Bool, ◌&&◌, List}
use Rattle.digests.specs.Strings.{Bytes}
use Rattle.families.specs.Numbers.{numbers, keep_where, any_of}
use Rattle.seals.specs.Scheme.{Scheme}
use Rattle.seals.specs.Calls.{passes}

-- row i clears block j: it holds it, and passes
abbrev pub clears : Scheme → Bytes → List Bytes → ℕ → ℕ → Bool
clears s part bs j i = s.family.holds i j && passes s part bs i

-- some row does
unfoldable pub some_clears : Scheme → Bytes → List Bytes → ℕ → Bool
some_clears s part bs j = any_of (clears s part bs j) (numbers 1 s.family.rows)

-- the rows that do, rising
unfoldable pub clearing_rows : Scheme → Bytes → List Bytes → ℕ → List ℕ
clearing_rows s part bs j = keep_where (clears s part bs j) (numbers 1 s.family.rows)
