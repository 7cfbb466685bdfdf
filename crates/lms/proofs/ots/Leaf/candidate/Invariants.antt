use Rattle.std.proofs.Common.{◌++◌}
use Rattle.lms.specs.Strings.{u32str, d_pblc, concat_all}
use Rattle.lms.proofs.Loops.{chain_end}
use Rattle.lms.proofs.ots.Leaf.candidate.Given as goal

-- the digest took the ends of the chains so far
abbrev pub invariant-loop-i : goal.invariant-loop-i
invariant-loop-i g l = g.D.Digest.took l.digest (l.self.id ++ u32str l.self.number ++ d_pblc ++ concat_all l.i (chain_end g.D.Digest.digest l.self.id l.self.number l.message l.signature))
