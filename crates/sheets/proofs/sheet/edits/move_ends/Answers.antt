use Rattle.std.proofs.Common.{◌+◌, ◌-◌, ◌∙◌, arith}
use Rattle.std.proofs.lemmas.List.{get_or_default}
use Rattle.std.proofs.lemmas.List.Edits.{map_over_more}
use Rattle.sheets.proofs.sheet.edits.move_ends.Goals as goal

pub loop-end-preserved : goal.loop-end-preserved
loop-end-preserved c =
    map_over_more (λ end. end - c.args.back + c.args.on) c.args.ends.now c.loop-end.ends c.loop-end.end-index c.from.result (omega arith) c.loop-end.invariant (c.from.ensures ∙ get_or_default c.loop-end.ends c.loop-end.end-index 0 c.from.result (omega arith))
