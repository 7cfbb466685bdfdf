use Rattle.std.proofs.Common.{◌≡◌, drop}
use Rattle.families.specs.Choice.{first_fit}
use Rattle.families.proofs.choose.first_pair.Given as goal

-- the pairs that are left have the answer
abbrev pub invariant-loop-q : goal.invariant-loop-q
invariant-loop-q l = first_fit l.n l.d (drop l.q-index l.pairs) ≡ first_fit l.n l.d l.pairs
