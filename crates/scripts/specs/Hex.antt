-- Bytes as lower-case hex, and no bytes as `-`. Assumes nothing.
use Rattle.std.specs.Prelude.{ℕ, ◌+◌, ◌-◌, ◌*◌, ◌/◌, ◌%◌, cond, ◌&&◌, [], ◌∷◌, length, Some, None, Option, ◌==◌, nat_le, nat_lt}
use Rattle.std.specs.Option.{option_map}
use Rattle.scripts.specs.Words.{Bytes, is_digit}

-- the value of a digit: from `0` to `9`, or from `a` to `f`
abbrev pub hex_value : ℕ → Option ℕ
hex_value x = cond (is_digit x) (Some (x - 48)) (cond (nat_le 97 x && nat_le x 102) (Some (x - 87)) None)

-- both values, put together
abbrev pub both : {A B C : Type 0} → (A → B → C) → Option A → Option B → Option C
both f None b = None
both f (Some a) b = option_map (f a) b

-- the byte of two digits
abbrev pub pair_value : ℕ → ℕ → Option ℕ
pair_value high low = both (λ h l. h * 16 + l) (hex_value high) (hex_value low)

-- the bytes of digits, two for each
unfoldable pub pairs_bytes : Bytes → Option Bytes
pairs_bytes [] = Some []
pairs_bytes (high ∷ []) = None
pairs_bytes (high ∷ (low ∷ xs)) = both (λ b bs. b ∷ bs) (pair_value high low) (pairs_bytes xs)

-- the bytes that a word stands for
unfoldable pub hex_bytes : Bytes → Option Bytes
hex_bytes [] = None
hex_bytes (x ∷ []) = cond (x == 45) (Some []) None
hex_bytes (x ∷ (y ∷ xs)) = pairs_bytes (x ∷ (y ∷ xs))

-- the digit of a value below 16
abbrev pub hex_digit : ℕ → ℕ
hex_digit d = cond (nat_lt d 10) (48 + d) (87 + d)

-- the two digits of a byte
abbrev pub pair_text : ℕ → Bytes
pair_text b = hex_digit (b / 16) ∷ (hex_digit (b % 16) ∷ [])

-- two digits for each byte
unfoldable pub pairs_text : Bytes → Bytes
pairs_text [] = []
pairs_text (b ∷ bs) = hex_digit (b / 16) ∷ (hex_digit (b % 16) ∷ pairs_text bs)

-- the word of bytes
unfoldable pub hex_text : Bytes → Bytes
hex_text [] = 45 ∷ []
hex_text (b ∷ bs) = pairs_text (b ∷ bs)

-- one word more, which is bytes
abbrev pub bytes_in : Option Bytes → Option Bytes
bytes_in None = None
bytes_in (Some word) = hex_bytes word

abbrev pub of_length : ℕ → Option Bytes → Option Bytes
of_length n None = None
of_length n (Some bs) = cond (length bs == n) (Some bs) None

-- so many bytes
abbrev pub array_of : ℕ → Bytes → Option Bytes
array_of n word = of_length n (hex_bytes word)
