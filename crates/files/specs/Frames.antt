-- One frame, in front of some bytes. Assumes nothing.
use Rattle.std.specs.Prelude.{ℕ, ◌+◌, Bool, ◌&&◌, length, take, drop, ◌==◌, nat_le}
use Rattle.digests.specs.Strings.{Bytes}
use Rattle.sheets.specs.Table.{max_bytes}
use Rattle.seals.specs.Part.{word}

-- some bytes begin with the frame of block j, which has no more bytes than a sheet
unfoldable pub has_frame : ℕ → Bytes → Bool
has_frame j e = word e 0 == j && (nat_le (word e 2) max_bytes && nat_le (4 + word e 2) (length e))

-- the block in the frame that bytes begin with
unfoldable pub first_block : Bytes → Bytes
first_block e = take (word e 2) (drop 4 e)

-- what stands behind that frame
unfoldable pub behind : Bytes → Bytes
behind e = drop (4 + word e 2) e
