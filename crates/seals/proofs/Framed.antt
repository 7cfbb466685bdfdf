-- The blocks of a row one after another, framed.
use Rattle.std.specs.Prelude.{◌≡◌, ℕ, zero, suc, ◌+◌, ◌-◌, ◌≤◌, Bool, true, false, List, [], ◌∷◌, ◌++◌, length, Some, None, Option, ◌≢◌, slice_index, refl}
use Rattle.std.specs.Int.{w16, to_be_bytes}
use Rattle.std.specs.List.{flat_map}
use Rattle.std.proofs.Common.{sym, ap, ◌∙◌, arith, get_or, append_assoc}
use Rattle.std.proofs.lemmas.List.{get_or-set_same, get_or-set_other, append-nil, length-set}
use Rattle.digests.specs.Strings.{Bytes}
use Rattle.families.specs.Numbers.{numbers, keep_where}
use Rattle.sheets.specs.declared.sheet.Sheet.{Sheet}
use Rattle.sheets.specs.Blocks.{blocks_of}
use Rattle.sheets.specs.Table.{max_bytes}
use Rattle.sheets.specs.Calls.{total_bytes, block_at, with_block}
use Rattle.sheets.proofs.Known.{size_is}
use Rattle.families.specs.Shape.{Shape, held_after, row_list}
use Rattle.seals.specs.Images.{two_bytes, framed, framed_blocks, row_image, whole_image}
use Rattle.seals.specs.declared.frames.Offer.{Offer}
use Rattle.seals.specs.declared.frames.View.{View}
use Rattle.seals.specs.View.{offered_in, viewed}

-- an offered block, and the others
pub offered_here : (bs : List Bytes) (j : ℕ) (v : Bytes) → 1 ≤ j → j ≤ length bs → block_at (with_block bs j v) j ≡ v
offered_here bs j v low high = get_or-set_same bs (j - 1) v [] (omega arith)

pub not_offered : (bs : List Bytes) (m j : ℕ) (v : Bytes) → 1 ≤ m → 1 ≤ j → j ≢ m → block_at (with_block bs m v) j ≡ block_at bs j
not_offered bs m j v low high other = get_or-set_other bs (m - 1) (j - 1) v [] (λ e. other (omega (arith, e)))

-- every block of a sheet is short
pub fits : (s : Sheet) → total_bytes (blocks_of s) ≤ max_bytes
fits s = omega (arith, size_is s, s.filled)

short_within : (bs : List Bytes) (i : ℕ) → length (get_or bs i []) ≤ total_bytes bs
short_within [] i = omega arith
short_within (b ∷ bs) zero = omega arith
short_within (b ∷ bs) (suc i) = omega (arith, short_within bs i)

pub block_short : (s : Sheet) (j : ℕ) → length (block_at (blocks_of s) j) ≤ max_bytes
block_short s j = omega (arith, short_within (blocks_of s) (j - 1), fits s)

-- some blocks of a list framed, one after another
unfoldable pub frames : List Bytes → List ℕ → Bytes
frames bs ms = flat_map (λ m. framed m (block_at bs m)) ms

-- numbers of blocks that are there
abbrev pub There : ℕ → List ℕ → Type 0
There n [] = Unit {0}
There n (m ∷ ms) = ((1 ≤ m) × (m ≤ n)) × There n ms

-- numbers from `from` on are kept
there : (keep : ℕ → Bool) (n from room : ℕ) → 1 ≤ from → from + room ≤ n + 1 → There n (keep_where keep (numbers from room))
unfolding keep_where numbers
there keep n from zero low high = tt
there keep n from (suc room) low high = go (keep from) refl (there keep n (suc from) room (omega arith) (omega arith))
  where
    go : (b : Bool) → keep from ≡ b → There n (keep_where keep (numbers (suc from) room)) → There n (keep_where keep (numbers from (suc room)))
    go true t above = rw t ((omega arith, omega arith), above)
    go false t above = rw t above

-- the frames of the blocks that are kept, of a list whose first has number j and which ends a longer one
framed_from : (keep : ℕ → Bool) (j : ℕ) (all bs : List Bytes) → 1 ≤ j → ((i : ℕ) → get_or bs i [] ≡ block_at all (j + i))
    → framed_blocks keep j bs ≡ frames all (keep_where keep (numbers j (length bs)))
unfolding framed_blocks keep_where numbers frames
framed_from keep j all [] low at = refl
framed_from keep j all (b ∷ bs) low at =
    go (keep j) refl
    (framed_from keep (suc j) all bs (omega arith) (λ i. at (suc i) ∙ ap (block_at all) (omega arith)))
  where
    first : b ≡ block_at all j
    first = at 0 ∙ ap (block_at all) (omega arith)

    go : (k : Bool) → keep j ≡ k → framed_blocks keep (suc j) bs ≡ frames all (keep_where keep (numbers (suc j) (length bs)))
        → framed_blocks keep j (b ∷ bs) ≡ frames all (keep_where keep (numbers j (length (b ∷ bs))))
    go true t rest = rw (t, rest, first) refl
    go false t rest = rw t rest

pub framed_kept : (keep : ℕ → Bool) (bs : List Bytes) → framed_blocks keep 1 bs ≡ frames bs (keep_where keep (numbers 1 (length bs)))
framed_kept keep bs = framed_from keep 1 bs bs (omega arith) (λ i. ap (λ k. get_or bs k []) (omega arith))

-- the numbers of a row's blocks
pub row_there : (f : Shape) (row n : ℕ) → n ≡ f.blocks → There n (row_list f row)
unfolding held_after
row_there f row n e = there (f.holds row) n (0 + 1) (f.blocks - 0) (omega arith) (omega (arith, e))

-- a row's image is its head and the frames of its blocks
pub row_parts : (f : Shape) (row : ℕ) (bs : List Bytes) → length bs ≡ f.blocks
    → (1 ∷ two_bytes row) ++ frames bs (row_list f row) ≡ row_image f.holds row bs
unfolding row_image held_after
row_parts f row bs e =
    let count : f.blocks - 0 ≡ length bs = omega (arith, e) in
    ap (λ k. (1 ∷ two_bytes row) ++ frames bs (keep_where (f.holds row) (numbers 1 k))) count
    ∙ ap (λ t. (1 ∷ two_bytes row) ++ t) (sym (framed_kept (f.holds row) bs))

pub length_viewed : (v : View) → length (viewed v) ≡ length (blocks_of v.sheet.now)
length_viewed v = go v.offer
  where
    go : (o : Option Offer) → length (offered_in (blocks_of v.sheet.now) o) ≡ length (blocks_of v.sheet.now)
    go None = refl
    go (Some offer) = length-set (blocks_of v.sheet.now) (offer.number.0 - 1) offer.bytes.now

-- one block more is framed
pub frames_step : (bs : List Bytes) (done : Bytes) (m : ℕ) (ms : List ℕ) (image : Bytes) → done ++ frames bs (m ∷ ms) ≡ image
    → (done ++ framed m (block_at bs m)) ++ frames bs ms ≡ image
unfolding frames
frames_step bs done m ms image e = append_assoc done (framed m (block_at bs m)) (frames bs ms) ∙ e

pub frames_end : (bs : List Bytes) (done : Bytes) (ms : List ℕ) (image : Bytes) → ms ≡ [] → done ++ frames bs ms ≡ image → done ≡ image
unfolding frames
frames_end bs done ms image none e = sym (append-nil done) ∙ ap (λ k. done ++ frames bs k) (sym none) ∙ e

-- a row's first three bytes, and the frames of the blocks that a call looks at
pub row_start : (f : Shape) (row : ℕ) (v : View) → length (blocks_of v.sheet.now) ≡ f.blocks
    → (1 ∷ two_bytes row) ++ frames (viewed v) (row_list f row) ≡ row_image f.holds row (viewed v)
row_start f row v count = row_parts f row (viewed v) (length_viewed v ∙ count)

-- the whole image's first three bytes
pub whole_start : (s : Sheet) (count : ℕ) (number : Bytes) (from : ℕ) (left : List Bytes) → count ≡ length (blocks_of s) → number ≡ to_be_bytes w16 count
    → from ≡ 0 → left ≡ blocks_of s
    → 2 ∷ (slice_index number 0 ∷ (slice_index number 1 ∷ framed_blocks (λ _. true) (from + 1) left)) ≡ whole_image (blocks_of s)
unfolding whole_image
whole_start s count number from left e f first all = rw (f, e, first, all) refl

-- one block more is framed
pub whole_step : (done : Bytes) (j : ℕ) (b : Bytes) (bs : List Bytes) (image : Bytes) → done ++ framed_blocks (λ _. true) j (b ∷ bs) ≡ image
    → (done ++ framed j b) ++ framed_blocks (λ _. true) (j + 1) bs ≡ image
unfolding framed_blocks
whole_step done j b bs image e =
    let next : j + 1 ≡ suc j = omega arith in
    ap (λ k. (done ++ framed j b) ++ framed_blocks (λ _. true) k bs) next ∙ append_assoc done (framed j b) (framed_blocks (λ _. true) (suc j) bs) ∙ e

pub whole_end : (done : Bytes) (j : ℕ) (bs : List Bytes) (image : Bytes) → bs ≡ [] → done ++ framed_blocks (λ _. true) j bs ≡ image → done ≡ image
unfolding framed_blocks
whole_end done j bs image none e = sym (append-nil done) ∙ ap (λ k. done ++ framed_blocks (λ _. true) j k) (sym none) ∙ e
