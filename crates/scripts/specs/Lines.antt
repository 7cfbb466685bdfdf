-- The lines of a script, and the parts of a text. Assumes nothing.
use Rattle.std.specs.Prelude.{ℕ, Bool, true, cond, List, [], ◌∷◌, ◌++◌, ◌==◌}
use Rattle.scripts.specs.Words.{Bytes}

-- an empty line, or a comment
abbrev pub silent : Bytes → Bool
silent [] = true
silent (x ∷ xs) = x == 35

-- the parts of a text, of which the first has begun already; each but the last ends before a separator
unfoldable pub parts_behind : ℕ → Bytes → Bytes → List Bytes
parts_behind separator begun [] = begun ∷ []
parts_behind separator begun (x ∷ xs) = cond (x == separator) (begun ∷ parts_behind separator [] xs) (parts_behind separator (begun ++ x ∷ []) xs)
