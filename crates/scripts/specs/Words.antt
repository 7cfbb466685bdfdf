-- The words of a script line, and the numbers that words stand for. Assumes nothing.
use Rattle.std.specs.Prelude.{ℕ, ◌+◌, ◌-◌, ◌*◌, Bool, cond, ◌&&◌, List, [], ◌∷◌, Some, None, Option, ◌==◌, nat_le}
use Rattle.std.specs.Str.{bytes_eq}

abbrev pub Bytes : Type 0
Bytes = List ℕ

-- what stands before the first space
unfoldable pub first_word : Bytes → Bytes
first_word [] = []
first_word (x ∷ xs) = cond (x == 32) [] (x ∷ first_word xs)

-- what stands behind the first space, if there is one
unfoldable pub behind_word : Bytes → Option Bytes
behind_word [] = None
behind_word (x ∷ xs) = cond (x == 32) (Some xs) (behind_word xs)

-- from `0` to `9`
abbrev pub is_digit : ℕ → Bool
is_digit x = nat_le 48 x && nat_le x 57

-- the value of a decimal digit
abbrev pub decimal_value : ℕ → Option ℕ
decimal_value x = cond (is_digit x) (Some (x - 48)) None

-- the number of decimal digits that stand behind those of n
unfoldable pub number_behind : ℕ → Bytes → Option ℕ
number_behind n [] = Some n
number_behind n (x ∷ xs) = cond (is_digit x) (number_behind (n * 10 + (x - 48)) xs) None

abbrev pub at_most : ℕ → Option ℕ → Option ℕ
at_most most None = None
at_most most (Some n) = cond (nat_le n most) (Some n) None

-- the number of a word of one or more digits, if it is at most so much
unfoldable pub number_of : Bytes → ℕ → Option ℕ
number_of [] most = None
number_of (x ∷ xs) most = at_most most (number_behind 0 (x ∷ xs))

-- no word more
abbrev pub alone : {A : Type 0} → A → Option Bytes → Option A
alone a None = Some a
alone a (Some rest) = None

-- what the table has at a word
abbrev pub entry_at : {A : Type 0} → List (Bytes × A) → Bytes → Option A
entry_at [] word = None
entry_at (row ∷ table) word = cond (bytes_eq word row.0) (Some row.1) (entry_at table word)
