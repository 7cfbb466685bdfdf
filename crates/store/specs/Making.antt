-- Files that are made: whose they are, and the names that they have at first. Assumes nothing.
use Rattle.std.specs.Prelude.{ℕ, ◌+◌, ◌*◌, List, ◌++◌, codes, decimal}
use Rattle.store.specs.declared.Access.{Access}
use Rattle.store.specs.declared.Access.TheVariants.{Owner, All}

-- reading and writing, as three octal digits say it
abbrev pub mode_of : Access → ℕ
mode_of Owner = 6 * 64
mode_of All = 6 * 64 + (6 * 8 + 6)

-- in the same folder, by a number of the run's own
abbrev pub beside_of : List ℕ → ℕ → List ℕ
beside_of path number = path ++ (codes "." ++ (decimal number ++ codes ".nazkoiber-new"))
