-- Bytes in one run, and a table of the places where their blocks end. Assumes nothing.
use Rattle.std.specs.Prelude.{ℕ, ◌+◌, ◌-◌, Bool, cond, ◌&&◌, ◌||◌, List, [], ◌∷◌, ◌++◌, length, take, drop, ◌==◌, nat_le}

abbrev pub Bytes : Type 0
Bytes = List ℕ

-- the limits of every sheet
abbrev pub max_blocks : ℕ
max_blocks = 512

abbrev pub max_bytes : ℕ
max_bytes = 38912

-- The blocks of a run of bytes whose first block starts at a place: each ends where the table says, and the next one starts there.
abbrev pub pieces : ℕ → List ℕ → Bytes → List Bytes
pieces start [] bs = []
pieces start (end ∷ ends) bs = take (end - start) bs ∷ pieces end ends (drop (end - start) bs)

-- no block ends before it starts, and the last one ends at the given place
abbrev pub rises : ℕ → List ℕ → ℕ → Bool
rises start [] stop = start == stop
rises start (end ∷ ends) stop = nat_le start end && rises end ends stop

-- The places where the lines of a text end whose first byte stands at a place: behind each 0A, and behind the last byte.
abbrev pub line_ends : ℕ → Bytes → List ℕ
line_ends at [] = []
line_ends at (x ∷ xs) = cond (x == 10 || length xs == 0) ((at + 1) ∷ []) [] ++ line_ends (at + 1) xs
