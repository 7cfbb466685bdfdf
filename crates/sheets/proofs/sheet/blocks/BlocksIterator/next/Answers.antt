use Rattle.std.proofs.Common.{◌≡◌, ◌+◌, ◌∷◌, length, arith}
use Rattle.std.proofs.lemmas.Grind.{common_steps}
use Rattle.sheets.proofs.Pieces.{Rises, risen, reach}
use Rattle.sheets.proofs.sheet.blocks.BlocksIterator.next.Goals as goal

pub split_at-requires : goal.split_at-requires
split_at-requires c =
    let b = c.self.inside in
    let all : b.ends.now ≡ c.in_ok-end.end.now ∷ c.in_ok-end.ends.now = grind (arith, common_steps) in
    let risen : Rises b.start (c.in_ok-end.end.now ∷ c.in_ok-end.ends.now) (b.start + length b.bytes.now) = rw all at (risen b.start b.ends.now (b.start + length b.bytes.now) c.self.invariant) in
    omega (arith, risen.0, reach c.in_ok-end.end.now c.in_ok-end.ends.now (b.start + length b.bytes.now) risen.1)
