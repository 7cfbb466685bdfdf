use Rattle.std.proofs.Common.{◌≡◌, suc, ◌+◌, ◌-◌, ◌<◌, ◌∷◌, length, get_or, sym, ap, ◌∙◌, arith}
use Rattle.std.proofs.lemmas.Grind.{common_steps}
use Rattle.sheets.proofs.Known.{stands}
use Rattle.sheets.proofs.sheet.Sheet.place.Goals as goal
use Rattle.sheets.proofs.sheet.Sheet.place.Goals.{then-index-eq0, else-index-eq0}

pub returns : goal.returns
returns c =
    let ends = c.ends-ends.result.now in
    let i = c.in-Some.index in
    let number : i + 1 ≡ c.args.number.0 = grind (arith, common_steps) in
    let short : i < length ends = grind (arith, common_steps) in
    let from : c.from.result ≡ get_or (0 ∷ ends) i 0
    = c.from.ensures ∙ elim c.if-index-eq0.branch [
      | then-index-eq0 w ↦ w.start-is ∙ ap (λ k. get_or (0 ∷ ends) k 0) (sym w.if-index-eq0.true)
      | else-index-eq0 w ↦ let later : suc (i - 1) ≡ i = omega (arith, w.if-index-eq0.false) in w.start-is ∙ ap (λ k. get_or (0 ∷ ends) k 0) later
    ] in
    let to : get_or ends i 0 ≡ c.from-2.result = cc in
    (number, rw (number, to) at (stands c.args.self.now i c.from.result ends c.ends-ends.ensures.items short from))
