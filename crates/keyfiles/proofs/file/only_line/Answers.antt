use Rattle.std.proofs.Common.{◌≡◌, sym, ◌∙◌, eqb, rules}
use Rattle.std.specs.List.{position}
use Rattle.std.proofs.lemmas.Iterator.{YieldsList-from_slice}
use Rattle.std.proofs.lemmas.Iterator.Search.{position_from_yields_List}
use Rattle.keyfiles.proofs.Lines.{no_end, more_lines, one_line}
use Rattle.keyfiles.proofs.file.only_line.Goals as goal
use Rattle.keyfiles.proofs.file.only_line.Goals.{After-position}

found : (c : After-position) → c.position.result ≡ position (λ b. eqb b 10) c.args.text.now
found c = position_from_yields_List (λ b. eqb b 10) _ _ c.position.result c.position.ensures.ran (YieldsList-from_slice c.args.text.now c.iter.ensures.rest) (λ x b q k. search rules)

pub returns-in_err-end : goal.returns-in_err-end
returns-in_err-end c = rw c.from_residual.ensures (no_end c.args.text.now (sym c.in_err-end.was ∙ found (goal.at.returns-in_err-end c).After-position))

pub returns-then-end-text : goal.returns-then-end-text
returns-then-end-text c = more_lines c.args.text.now c.in_ok-end.end (sym c.in_ok-end.was ∙ found (goal.at.returns-then-end-text c).After-position) c.if-end-text.true

pub returns : goal.returns
returns c = one_line c.args.text.now c.in_ok-end.end (sym c.in_ok-end.was ∙ found (goal.at.returns c).After-position) c.if-end-text.false
