use Rattle.std.proofs.Common.{◌≡◌, ◌-◌, ◌<◌, sym, ap, ◌∙◌, arith}
use Rattle.std.specs.Option.{option_map}
use Rattle.answers.specs.Numbers.{block_number}
use Rattle.families.specs.Numbers.{lowest}
use Rattle.families.specs.Lowest.{lowest_end, lowest_next, lowest_more}
use Rattle.families.proofs.family.Family.next_block.Goals as goal

pub loop-below-preserved : goal.loop-below-preserved
loop-below-preserved g c =
    let f = g.Self.Family.shape c.args.self.now in
    let inside : c.loop-below.below < f.blocks = omega (arith, c.block_count-below-end.ensures) in
    sym (lowest_more (f.holds c.args.row.0) c.loop-below.below f.blocks inside (sym c.if-holds.ensures)) ∙ c.loop-below.invariant

pub returns-then-holds : goal.returns-then-holds
returns-then-holds g c =
    let f = g.Self.Family.shape c.args.self.now in
    let inside : c.loop-below.below < f.blocks = omega (arith, c.block_count-below-end.ensures) in
    ap (option_map block_number) (sym (lowest_next (f.holds c.args.row.0) c.loop-below.below f.blocks inside (sym c.if-holds.ensures)) ∙ c.loop-below.invariant)

pub returns : goal.returns
returns g c =
    let f = g.Self.Family.shape c.args.self.now in
    let none : f.blocks - c.loop-below.below ≡ 0 = omega (arith, c.block_count-below-end.ensures) in
    ap (option_map block_number) (sym (ap (lowest (f.holds c.args.row.0) _) none ∙ lowest_end (f.holds c.args.row.0) _) ∙ c.loop-below.invariant)
