use Rattle.families.proofs.polynomial.+value_at.Given as goal

abbrev pub decreases-value_at : goal.decreases-value_at
decreases-value_at g l = l.k
