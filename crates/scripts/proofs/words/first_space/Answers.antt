use Rattle.std.proofs.Common.{eqb, rules}
use Rattle.std.proofs.lemmas.Iterator.{YieldsList-from_slice}
use Rattle.std.proofs.lemmas.Iterator.Search.{position_from_yields_List}
use Rattle.scripts.proofs.WordLemmas.{parted}
use Rattle.scripts.proofs.words.first_space.Goals as goal

pub returns : goal.returns
returns c =
    let line = c.args.line.now in
    parted line c.position.result
    (position_from_yields_List (λ b. eqb b 32) _ _ c.position.result c.position.ensures.ran (YieldsList-from_slice line c.iter.ensures.rest) (λ x b q k. search rules))
