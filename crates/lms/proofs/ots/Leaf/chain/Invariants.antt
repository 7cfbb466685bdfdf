use Rattle.std.proofs.Common.{◌≡◌, length}
use Rattle.lms.specs.Lmots.{chain}
use Rattle.lms.proofs.ots.Leaf.chain.Given as goal

-- the value before the step
abbrev pub invariant-loop-step : goal.invariant-loop-step
invariant-loop-step g l = (length l.value ≡ 32) × (l.value ≡ chain g.D.Digest.digest l.self.id l.self.number l.number l.from l.step l.initial.value)
