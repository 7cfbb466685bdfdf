-- What each call on a sheet answers and leaves, over the list of blocks alone. Assumes nothing.
use Rattle.std.specs.Prelude.{◌≡◌, ℕ, ◌+◌, ◌-◌, Bool, true, false, cond, not, ◌&&◌, ◌||◌, List, [], ◌∷◌, length, Ok, Err, Result, ◌==◌, nat_le, nat_lt, slice_index_or, slice_set}
use Rattle.std.specs.List.{flat_map}
use Rattle.answers.specs.declared.BlockNumber.{BlockNumber}
use Rattle.answers.specs.declared.Refusal.{Refusal}
use Rattle.answers.specs.declared.Refusal.TheVariants.{EmptyText, TooManyLines, TooLong, NoSuchBlock, SheetFull, SheetNotEmpty}
use Rattle.answers.specs.Numbers.{block_number}
use Rattle.answers.specs.Refusals.{unless}
use Rattle.sheets.specs.Table.{Bytes, max_blocks, max_bytes}

abbrev pub total_bytes : List Bytes → ℕ
total_bytes [] = 0
total_bytes (b ∷ bs) = length b + total_bytes bs

-- block j of a sheet, counted from 1; at 0, which every call refuses, the first
abbrev pub block_at : List Bytes → ℕ → Bytes
block_at bs j = slice_index_or bs (j - 1) []

-- the blocks with b as block j; at 0, which every call refuses, as the first
abbrev pub with_block : List Bytes → ℕ → Bytes → List Bytes
with_block bs j b = slice_set bs (j - 1) b

-- j is no block of n
abbrev pub no_block : ℕ → ℕ → Bool
no_block n j = j == 0 || nat_lt n j

-- a byte in front of the first line; where there is none, it is a line
abbrev pub in_front : ℕ → List Bytes → List Bytes
in_front x [] = (x ∷ []) ∷ []
in_front x (l ∷ ls) = (x ∷ l) ∷ ls

-- each line with its byte 0A, and the last piece without one
abbrev pub text_lines : Bytes → List Bytes
text_lines [] = []
text_lines (x ∷ xs) = cond (x == 10) ((x ∷ []) ∷ text_lines xs) (in_front x (text_lines xs))

abbrev pub cut_answer : List Bytes → Bytes → Result ℕ Refusal
cut_answer bs text =
    unless
    ((not (length bs == 0), SheetNotEmpty)
    ∷ (((length text == 0), EmptyText)
    ∷ ((nat_lt max_bytes (length text), TooLong)
    ∷ ((nat_lt max_blocks (length (text_lines text)), TooManyLines) ∷ []))))
    (length (text_lines text))

abbrev pub add_answer : List Bytes → Bytes → Result BlockNumber Refusal
add_answer bs b =
    unless
    ((nat_lt max_bytes (length b), TooLong)
    ∷ ((nat_le max_blocks (length bs) || nat_lt max_bytes (total_bytes bs + length b), SheetFull) ∷ []))
    (block_number (length bs + 1))

abbrev pub rewrite_answer : List Bytes → ℕ → Bytes → Result ℕ Refusal
rewrite_answer bs j b =
    let total = total_bytes (with_block bs j b) in
    unless
    ((no_block (length bs) j, NoSuchBlock)
    ∷ ((nat_lt max_bytes (length b), TooLong)
    ∷ ((nat_lt max_bytes total, SheetFull) ∷ [])))
    total

abbrev pub block_answer : List Bytes → ℕ → Result Bytes Refusal
block_answer bs j = unless ((no_block (length bs) j, NoSuchBlock) ∷ []) (block_at bs j)

-- the blocks after a call: the new ones where it succeeded, else those before it
abbrev pub after : {A : Type 0} → Result A Refusal → List Bytes → List Bytes → List Bytes
after (Ok a) new old = new
after (Err e) new old = old

-- a line with its 0A, which stands nowhere else in it
abbrev pub ended_line : Bytes → Bool
ended_line [] = false
ended_line (x ∷ []) = x == 10
ended_line (x ∷ (y ∷ ys)) = not (x == 10) && ended_line (y ∷ ys)

-- a piece with no 0A
abbrev pub open_line : Bytes → Bool
open_line [] = false
open_line (x ∷ []) = not (x == 10)
open_line (x ∷ (y ∷ ys)) = not (x == 10) && open_line (y ∷ ys)

-- every line has its 0A but the last, which may lack it
abbrev pub all_lines : List Bytes → Bool
all_lines [] = true
all_lines (l ∷ []) = ended_line l || open_line l
all_lines (l ∷ (m ∷ ms)) = ended_line l && all_lines (m ∷ ms)

-- What cut makes of a text in other words: joined the lines are the text, each is a line, and none is empty. Only one list is so.
pub record LinesOf (text : Bytes) (ls : List Bytes) : Type 0 where
  pub joins : flat_map (λ (l : Bytes). l) ls ≡ text
  pub each : all_lines ls ≡ true
