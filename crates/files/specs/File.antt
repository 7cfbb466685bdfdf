-- The sealed file: how it is written, how it is read, and what pack and unpack answer. Assumes nothing.
use Rattle.std.specs.Prelude.{ℕ, ◌+◌, ◌-◌, ◌*◌, Bool, true, not, ◌&&◌, List, [], ◌∷◌, ◌++◌, length, take, drop, Result, ◌==◌, nat_le, nat_lt, slice_range}
use Rattle.answers.specs.declared.Refusal.{Refusal}
use Rattle.answers.specs.declared.Refusal.TheVariants.{NoRoom, Malformed, SheetNotEmpty, SheetEmpty, OtherBlockCount}
use Rattle.answers.specs.Refusals.{unless}
use Rattle.digests.specs.Strings.{Bytes, same}
use Rattle.sheets.specs.Table.{max_bytes}
use Rattle.sheets.specs.Calls.{total_bytes}
use Rattle.seals.specs.Images.{framed_blocks}
use Rattle.seals.specs.Part.{four_bytes, word, part_blocks, is_seal_part}
use Rattle.seals.specs.Calls.{same_count, unframed}

-- the last four bytes of every file
abbrev pub magic : Bytes
magic = 0x00 ∷ (0x01 ∷ (0x42 ∷ (0x54 ∷ [])))

-- all blocks framed
unfoldable pub frames : List Bytes → Bytes
frames bs = framed_blocks (λ _. true) 1 bs

-- what stands behind a seal part of so many bytes: the distance from the file's end back to the part's start, and the magic
unfoldable pub trailer : ℕ → Bytes
trailer size = four_bytes (size + 8) ++ magic

-- the file of these blocks and this seal part
unfoldable pub file_of : List Bytes → Bytes → Bytes
file_of bs part = frames bs ++ (part ++ trailer (length part))

-- the file, into so much room
unfoldable pub pack_answer : List Bytes → Bytes → ℕ → Result Bytes Refusal
pack_answer bs part room =
    let file = file_of bs part in
    unless
    ((length bs == 0, SheetEmpty)
    ∷ ((not (is_seal_part part), Malformed)
    ∷ ((not (same_count bs part), OtherBlockCount)
    ∷ ((nat_lt room (length file), NoRoom) ∷ []))))
    file

-- the distance that a file's trailer says
unfoldable pub distance : Bytes → ℕ
distance file = word file (length file - 8) * 65536 + word file (length file - 6)

-- where its seal part starts
unfoldable pub seal_place : Bytes → ℕ
seal_place file = length file - distance file

-- the seal part: what stands from there to the trailer
unfoldable pub seal_of : Bytes → Bytes
seal_of file = slice_range file (seal_place file) (length file - 8)

-- and what stands before it
unfoldable pub frames_of : Bytes → Bytes
frames_of file = take (seal_place file) file

-- a file ends with a trailer whose distance is at least the trailer's eight bytes and smaller than the file
unfoldable pub has_trailer : Bytes → Bool
has_trailer file =
    nat_le 8 (length file) && (same (drop (length file - 4) file) magic && (nat_le 8 (distance file) && nat_lt (distance file) (length file)))

-- blocks 1 to n, as they are read from frames
unfoldable pub blocks_in : ℕ → Bytes → List Bytes
blocks_in n e = unframed (λ _. true) 1 n e

-- a string is exactly the frames of blocks 1 to n, which have together no more bytes than a sheet
unfoldable pub is_frames : ℕ → Bytes → Bool
is_frames n e = same (frames (blocks_in n e)) e && nat_le (total_bytes (blocks_in n e)) max_bytes

-- a sealed file by its form
unfoldable pub is_file : Bytes → Bool
is_file file = has_trailer file && (is_seal_part (seal_of file) && is_frames (part_blocks (seal_of file)) (frames_of file))

-- the blocks of a file
unfoldable pub blocks_of_file : Bytes → List Bytes
blocks_of_file file = blocks_in (part_blocks (seal_of file)) (frames_of file)

-- the place and the length of the seal part in a file
unfoldable pub unpack_answer : List Bytes → Bytes → Result (ℕ × ℕ) Refusal
unpack_answer bs file =
    unless
    ((not (length bs == 0), SheetNotEmpty)
    ∷ ((not (is_file file), Malformed) ∷ []))
    (seal_place file, length (seal_of file))
