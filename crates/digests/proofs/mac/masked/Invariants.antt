use Rattle.std.proofs.Common.{◌≡◌}
use Rattle.digests.proofs.Pads.{front}
use Rattle.digests.proofs.mac.masked.Given as goal

-- the bytes so far are masked
abbrev pub invariant-loop-index : goal.invariant-loop-index
invariant-loop-index l = l.pad ≡ front l.mask l.key l.index
