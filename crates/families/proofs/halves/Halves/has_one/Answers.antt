use Rattle.std.proofs.Common.{◌≤◌, ap, ◌∙◌, arith}
use Rattle.families.specs.Halves.{halves_held}
use Rattle.families.specs.HalvesLaw.{rows_range}
use Rattle.families.proofs.Ranks.{ranked_bit}
use Rattle.families.proofs.halves.Halves.has_one.Goals as goal

pub returns : goal.returns
returns c =
    let f = c.args.self.now in
    let range = rows_range f.blocks.n (omega (arith, f.blocks.most)) in
    let two : 2 ≤ f.t = omega (arith, range.0, f.rows) in
    rw c.from.ensures (ranked_bit f.t f.blocks.n f.words two f.ranked c.args.row.0 c.args.block.0 (omega arith) (omega arith) (omega arith)
    ∙ ap (λ t. halves_held t c.args.row.0 c.args.block.0) f.rows)

pub overflow_shr-result : goal.overflow_shr-result
overflow_shr-result c =
    let f = c.args.self.now in
    let range = rows_range f.blocks.n (omega (arith, f.blocks.most)) in
    omega (arith, range.1, f.rows)
