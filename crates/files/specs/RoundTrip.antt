-- What packing and unpacking are to each other. Assumes nothing.
use Rattle.std.specs.Prelude.{◌≡◌, ℕ, ◌<◌, ◌≤◌, true, ◌↔◌, List, [], length, Ok, is_ok, slice_index}
use Rattle.digests.specs.Strings.{Bytes}
use Rattle.sheets.specs.Table.{max_bytes}
use Rattle.sheets.specs.Calls.{total_bytes}
use Rattle.files.specs.File.{frames, pack_answer, seal_of, blocks_of_file, unpack_answer}

-- each number is a byte
abbrev pub AllBytes : Bytes → Type 0
AllBytes b = (k : ℕ) → slice_index b k < 256

-- pack of these blocks and this seal part, into enough room, makes this file
abbrev pub Packs : List Bytes → Bytes → Bytes → Type 0
Packs bs part file = (room : ℕ) → length file ≤ room → pack_answer bs part room ≡ Ok file

-- a file that pack makes of a sheet's blocks and a seal part
pub record PackedFrom (file : Bytes) (bs : List Bytes) (part : Bytes) : Type 0 where
  pub fits : total_bytes bs ≤ max_bytes
  pub bytes : AllBytes part
  pub packs : Packs bs part file

-- unpack of this file, into an empty sheet, gives these blocks and this seal part
pub record Unpacks (file : Bytes) (bs : List Bytes) (part : Bytes) : Type 0 where
  pub answer : unpack_answer [] file ≡ Ok (length (frames bs), length part)
  pub blocks : blocks_of_file file ≡ bs
  pub seal : seal_of file ≡ part

-- unpack of this file, into an empty sheet, succeeds
abbrev pub Opens : Bytes → Type 0
Opens file = is_ok (unpack_answer [] file) ≡ true

pub record RoundTrip : Type 0 where
  -- what was packed is what is unpacked
  pub unpacked : (file : Bytes) (bs : List Bytes) (part : Bytes) → PackedFrom file bs part → Unpacks file bs part
  -- what was unpacked is packed into the same file
  pub packed : (file : Bytes) → AllBytes file → Opens file → PackedFrom file (blocks_of_file file) (seal_of file)
  -- two different pairs of blocks and seal part never make the same file
  pub apart : (file : Bytes) (bs cs : List Bytes) (part other : Bytes) → PackedFrom file bs part → PackedFrom file cs other → (bs ≡ cs) × (part ≡ other)
  -- unpack succeeds exactly on what pack can write
  pub exact : (file : Bytes) → AllBytes file → Opens file ↔ ((bs : List Bytes) × ((part : Bytes) × PackedFrom file bs part))
