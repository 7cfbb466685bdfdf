-- What each call answers, over one sheet and one seal part. Assumes nothing.
use Rattle.std.specs.Prelude.{ℕ, zero, suc, ◌+◌, ◌*◌, min, Bool, true, false, not, ◌&&◌, ◌||◌, List, [], ◌∷◌, ◌++◌, length, take, drop, Ok, Err, Result, ◌==◌, nat_le, nat_lt, slice_index}
use Rattle.answers.specs.declared.Refusal.{Refusal}
use Rattle.answers.specs.declared.Refusal.TheVariants.{TooLong, NoSuchBlock, NoRoom, Malformed, NotGenuine, RowLacksBlock, WrongExcerpt, RowDiffers, SheetEmpty, NotDrawn, OtherScheme, OtherBlockCount, TooManySuspects, NoRowVouches}
use Rattle.answers.specs.Refusals.{unless}
use Rattle.digests.specs.Strings.{Bytes, same}
use Rattle.families.specs.Numbers.{numbers, keep_where, any_of}
use Rattle.families.specs.Shape.{Shape}
use Rattle.keys.specs.Key.{Key}
use Rattle.sheets.specs.Table.{max_bytes}
use Rattle.sheets.specs.Calls.{with_block, no_block}
use Rattle.seals.specs.Images.{row_image, whole_image, row_rest}
use Rattle.seals.specs.Scheme.{Scheme, Inspection}
use Rattle.seals.specs.Part.{word, part_blocks, part_strength, part_rows, part_family_kind, part_q, part_k, part_digest_kind, part_sealer_kind, is_seal_part, seal_number, signed_text, signature_of, row_digest, whole_digest}

-- some cause of a list holds
abbrev pub held_back : List (Bool × Refusal) → Bool
held_back [] = false
held_back (c ∷ cs) = c.0 || held_back cs

-- the length of a seal part of so many rows and so long a signature
abbrev pub part_length : ℕ → ℕ → ℕ
part_length rows size = 50 + (32 * rows + size)

-- A seal of these blocks under a number that was drawn by the key of that name, into so much room: the length of the seal part.
unfoldable pub seal_answer : Shape → Key → Bytes → ℕ → List Bytes → ℕ → Result ℕ Refusal
seal_answer f key drawn_under number bs room =
    let long = part_length f.rows key.size in
    unless
    ((length bs == 0, SheetEmpty)
    ∷ ((not (f.blocks == length bs), OtherScheme)
    ∷ ((not (same drawn_under key.name && nat_lt number key.next), NotDrawn)
    ∷ ((nat_lt room long, NoRoom) ∷ []))))
    long

-- the family is the seal's
unfoldable pub same_family : Shape → Bytes → Bool
same_family f b =
    part_blocks b == f.blocks
    && (part_family_kind b == f.kind && (part_q b == f.q && (part_k b == f.k
    && (part_strength b == f.strength && part_rows b == f.rows))))

-- so are family and digest
unfoldable pub same_scheme : Scheme → Bytes → Bool
same_scheme s b = same_family s.family b && part_digest_kind b == s.digest_kind

-- sheet and seal have the same block count
unfoldable pub same_count : List Bytes → Bytes → Bool
same_count bs b = length bs == part_blocks b

-- a seal part that an inspector accepts
unfoldable pub accept_answer : Inspection → Bytes → Result Bytes Refusal
accept_answer v part =
    unless
    ((not (is_seal_part part), Malformed)
    ∷ ((not (part_sealer_kind part == v.kind && v.says (seal_number part) (signed_text part) (signature_of part)), NotGenuine) ∷ []))
    part

-- row i has the digest that was sealed
unfoldable pub passes : Scheme → Bytes → List Bytes → ℕ → Bool
passes s part bs i = same (s.digest (row_image s.family.holds i bs)) (row_digest part i)

-- the whole has
unfoldable pub agrees : Scheme → Bytes → List Bytes → Bool
agrees s part bs = same (s.digest (whole_image bs)) (whole_digest part)

-- block j lies in no row that passes
unfoldable pub suspect : Scheme → Bytes → List Bytes → ℕ → Bool
suspect s part bs j = not (any_of (λ i. s.family.holds i j && passes s part bs i) (numbers 1 s.family.rows))

-- none where the whole agrees
unfoldable pub suspects : Scheme → Bytes → List Bytes → List ℕ
suspects s part bs = elim (agrees s part bs) [ true ↦ [] | false ↦ keep_where (suspect s part bs) (numbers 1 s.family.blocks) ]

-- what refuses a check before it compares
unfoldable pub check_before : Scheme → Bytes → List Bytes → ℕ → List (Bool × Refusal)
check_before s part bs room =
    (not (same_scheme s part), OtherScheme)
    ∷ ((not (same_count bs part), OtherBlockCount)
    ∷ ((nat_lt room (min s.family.strength s.family.blocks), NoRoom) ∷ []))

-- the suspects, into so much room
unfoldable pub check_answer : Scheme → Bytes → List Bytes → ℕ → Result (List ℕ) Refusal
check_answer s part bs room =
    let found = suspects s part bs in
    unless (check_before s part bs room ++ ((nat_lt s.family.strength (length found), TooManySuspects (length found)) ∷ [])) found

-- the rows that hold block j and pass with v in its place, rising
unfoldable pub vouching : Scheme → Bytes → List Bytes → ℕ → Bytes → List ℕ
vouching s part bs j v = keep_where (λ i. s.family.holds i j && passes s part (with_block bs j v) i) (numbers 1 s.family.rows)

-- what refuses a vouch before it compares
unfoldable pub vouch_before : Scheme → Bytes → List Bytes → ℕ → Bytes → List (Bool × Refusal)
vouch_before s part bs j v =
    (not (same_scheme s part), OtherScheme)
    ∷ ((not (same_count bs part), OtherBlockCount)
    ∷ ((no_block (length bs) j, NoSuchBlock)
    ∷ ((nat_lt max_bytes (length v), TooLong) ∷ [])))

-- the lowest such row, and the length of its excerpt without block j
unfoldable pub vouch_answer : Scheme → Bytes → List Bytes → ℕ → Bytes → Result (ℕ × ℕ) Refusal
vouch_answer s part bs j v =
    let row = slice_index (vouching s part bs j v) 0 in
    unless
    (vouch_before s part bs j v ++ ((length (vouching s part bs j v) == 0, NoRowVouches) ∷ []))
    (row, length (row_rest s.family.holds row j bs))

-- the other blocks of row i framed, into so much room
unfoldable pub excerpt_answer : Shape → Bytes → List Bytes → ℕ → ℕ → ℕ → Result Bytes Refusal
excerpt_answer f part bs j i room =
    let rest = row_rest f.holds i j bs in
    unless
    ((not (same_family f part), OtherScheme)
    ∷ ((not (same_count bs part), OtherBlockCount)
    ∷ ((no_block (length bs) j, NoSuchBlock)
    ∷ ((not (f.holds i j), RowLacksBlock)
    ∷ ((nat_lt room (length rest), NoRoom) ∷ [])))))
    rest

-- the blocks m, m + 1, .. that e holds framed, where keep says so; empty blocks elsewhere
unfoldable pub unframed : (ℕ → Bool) → ℕ → ℕ → Bytes → List Bytes
unframed keep m zero e = []
unframed keep m (suc count) e =
    elim (keep m) [
      | true ↦ take (word e 2) (drop 4 e) ∷ unframed keep (suc m) count (drop (4 + word e 2) e)
      | false ↦ [] ∷ unframed keep (suc m) count e
    ]

-- each block is at most as long as a sheet
unfoldable pub all_short : List Bytes → Bool
all_short [] = true
all_short (b ∷ bs) = nat_le (length b) max_bytes && all_short bs

-- the sheet that an excerpt of block j and row i stands for: empty but for the row's other blocks
unfoldable pub rest_blocks : Shape → ℕ → ℕ → Bytes → List Bytes
rest_blocks f j i e = unframed (λ m. f.holds i m && not (m == j)) 1 f.blocks e

-- the excerpt is exactly the row's other blocks framed, each short enough
unfoldable pub is_excerpt : Shape → ℕ → ℕ → Bytes → Bool
is_excerpt f j i e = same (row_rest f.holds i j (rest_blocks f j i e)) e && all_short (rest_blocks f j i e)

-- what refuses a confirm before it compares
unfoldable pub confirm_before : Scheme → Bytes → ℕ → ℕ → Bytes → Bytes → List (Bool × Refusal)
confirm_before s part j i v e =
    (not (same_scheme s part), OtherScheme)
    ∷ ((no_block s.family.blocks j, NoSuchBlock)
    ∷ ((nat_lt max_bytes (length v), TooLong)
    ∷ ((not (s.family.holds i j), RowLacksBlock)
    ∷ ((not (is_excerpt s.family j i e), WrongExcerpt) ∷ []))))

-- yes if row i, rebuilt from the offered bytes and the excerpt, has the digest that was sealed
unfoldable pub confirm_answer : Scheme → Bytes → ℕ → ℕ → Bytes → Bytes → Result (Unit {0}) Refusal
confirm_answer s part j i v e =
    unless (confirm_before s part j i v e ++ ((not (passes s part (with_block (rest_blocks s.family j i e) j v) i), RowDiffers) ∷ [])) tt

-- a lent list after a call that writes its answer there: the answer in front of what stood behind it, or all as it was
abbrev pub lent_after : Result (List ℕ) Refusal → List ℕ → List ℕ
lent_after (Ok xs) before = xs ++ drop (length xs) before
lent_after (Err e) before = before
