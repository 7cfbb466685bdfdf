use Rattle.std.proofs.Common.{take}
use Rattle.std.specs.List.{flat_map}
use Rattle.digests.proofs.digest_of.Given as goal

-- the digest took the pieces so far
abbrev pub invariant-loop-piece : goal.invariant-loop-piece
invariant-loop-piece g l = g.D.Digest.took l.digest (flat_map g.P.AsSlice.items (take l.piece-index l.pieces))
