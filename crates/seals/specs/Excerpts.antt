-- Excerpts taken apart frame by frame, and rows put together from them. Assumes nothing.
use Rattle.std.specs.Prelude.{◌≡◌, ℕ, ◌+◌, ◌≤◌, true, ◌&&◌, ◌∷◌, ◌++◌, length, take, drop, Some, None, Option, ◌==◌, nat_le, if◌then◌else◌}
use Rattle.digests.specs.Strings.{Bytes}
use Rattle.families.specs.Shape.{Shape}
use Rattle.sheets.specs.Table.{max_bytes}
use Rattle.sheets.specs.Calls.{with_block}
use Rattle.seals.specs.Images.{two_bytes, framed, row_image}
use Rattle.seals.specs.Part.{word}
use Rattle.seals.specs.Calls.{rest_blocks, is_excerpt}

-- what stands behind the frame of block j, of at most 38,912 bytes, if the bytes begin with one
unfoldable pub behind_frame : ℕ → Bytes → Option Bytes
behind_frame j e =
    let size = word e 2 in
    if word e 0 == j && (nat_le size max_bytes && nat_le (4 + size) (length e)) then Some (drop (4 + size) e) else None

-- row i, where block j's own bytes stand at place p among the others' frames
unfoldable pub image_around : ℕ → ℕ → Bytes → Bytes → ℕ → Bytes
image_around i j v e p = 1 ∷ (two_bytes i ++ (take p e ++ (framed j v ++ drop p e)))

-- p is the place in an excerpt where block j's own frame belongs
pub record OwnPlace (f : Shape) (j i : ℕ) (e : Bytes) (p : ℕ) : Type 0 where
  pub exact : is_excerpt f j i e ≡ true
  pub inside : p ≤ length e
  pub image : (v : Bytes) → row_image f.holds i (with_block (rest_blocks f j i e) j v) ≡ image_around i j v e p
