use Rattle.std.proofs.Common.{◌≡◌, ◌+◌, ◌*◌, ◌++◌, length, take}
use Rattle.lms.specs.Strings.{concat_all}
use Rattle.lms.proofs.Loops.{signed_chain}
use Rattle.lms.proofs.ots.Leaf.sign_chains.Given as goal

-- the chains so far stand behind the randomizer
abbrev pub invariant-loop-i : goal.invariant-loop-i
invariant-loop-i g l =
    (length l.signature ≡ 1292)
    × (take (40 + 32 * l.i) l.signature ≡ take 40 l.initial.signature ++ concat_all l.i (signed_chain g.D.Digest.digest l.self.id l.seed l.self.number l.coefficients))
