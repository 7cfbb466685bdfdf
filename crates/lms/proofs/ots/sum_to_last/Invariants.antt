use Rattle.std.proofs.Common.{◌≡◌}
use Rattle.lms.proofs.Loops.{gaps_to}
use Rattle.lms.proofs.ots.sum_to_last.Given as goal

-- the sum over the bytes so far
abbrev pub invariant-loop-byte : goal.invariant-loop-byte
invariant-loop-byte l = l.sum ≡ gaps_to l.byte-index l.hash
