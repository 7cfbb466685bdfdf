use Rattle.families.proofs.Ranks.{Found}
use Rattle.families.proofs.halves.rank_words.Given as goal

-- the numbers below stand in their places, as many as there is room for
abbrev pub invariant-loop-word : goal.invariant-loop-word
invariant-loop-word l = Found l.t l.word l.words l.found
