use Rattle.vectors.specs.Pieced.{repeated}
use Rattle.vectors.proofs.pieces.digest_repeated.Given as goal

-- the digest took the piece in each turn
abbrev pub invariant-loop-turn : goal.invariant-loop-turn
invariant-loop-turn g l = g.D.Digest.took l.digest (repeated l._turn l.piece)
