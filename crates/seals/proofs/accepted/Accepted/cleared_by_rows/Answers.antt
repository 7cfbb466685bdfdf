use Rattle.std.proofs.Common.{◌≡◌, ◌+◌, ◌-◌, ◌||◌, sym, ap, ◌∙◌, arith}
use Rattle.families.specs.Numbers.{numbers, any_of}
use Rattle.sheets.specs.Blocks.{blocks_of}
use Rattle.seals.specs.Scheme.{scheme}
use Rattle.seals.specs.Passing.{clears, some_clears}
use Rattle.seals.proofs.Clearing.{none_cleared, any_none, any_more}
use Rattle.seals.proofs.accepted.Accepted.cleared_by_rows.Goals as goal

pub loop-row-init : goal.loop-row-init
loop-row-init g c = λ j low. none_cleared 512 j ∙ sym (any_none _)

pub loop-row-preserved : goal.loop-row-preserved
loop-row-preserved g c = λ j low.
    let f = g.F.Family.shape c.args.family.now in
    let q = clears (scheme g.D.Digest.digest g.D.Digest.KIND f) c.args.self.now.part.now (blocks_of c.args.sheet.now) j in
    c.clear_if_passing.ensures j low
    ∙ ap (λ b. b || q c.loop-row.row) (c.loop-row.invariant j low)
    ∙ any_more q c.loop-row.row (omega arith)

pub returns-2 : goal.returns-2
unfolding some_clears
returns-2 g c = λ j low.
    let f = g.F.Family.shape c.args.family.now in
    let q = clears (scheme g.D.Digest.digest g.D.Digest.KIND f) c.args.self.now.part.now (blocks_of c.args.sheet.now) j in
    let last : c.loop-row.row + 1 - 1 ≡ f.rows = omega (arith, c.row_count-row-end.ensures) in
    c.clear_if_passing.ensures j low
    ∙ ap (λ b. b || q c.loop-row.row) (c.loop-row.invariant j low)
    ∙ any_more q c.loop-row.row (omega arith)
    ∙ ap (λ k. any_of q (numbers 1 k)) last
