use Rattle.std.proofs.Common.{length, sym, ap, ◌∙◌, subst, zero-add, arith, ◌≢◌}
use Rattle.std.proofs.lemmas.Bool.{not-true, not-false, eqb-true, eqb-false}
use Rattle.sheets.specs.Blocks.{blocks_of}
use Rattle.seals.proofs.Framed.{There, row_there}
use Rattle.seals.proofs.Rest.{rest, rest_of_row, rest_bound, rest_own, rest_longer, rest_none}
use Rattle.seals.proofs.excerpts.rest_length.Goals as goal

pub loop-number-init : goal.loop-number-init
loop-number-init g c =
    let f = g.F.Family.shape c.args.family.now in
    let bs = blocks_of c.args.sheet.now in
    let left = c.into_iter-number-iterator.ensures.into_iter_gives ∙ c.row_blocks-number-items.ensures in (
      tt,
      tt,
      rw left (row_there f c.args.row.0 (length bs) c.requires),
      rw left (zero-add _ ∙ ap length (rest_of_row f c.args.row.0 c.args.block.0 bs c.requires)),
    )

pub block_of-requires : goal.block_of-requires
block_of-requires g c = (subst (There (length (blocks_of c.args.sheet.now))) c.in-Some.ensures.steps c.loop-number.invariant.2).0

pub overflow_add-length-then-ne : goal.overflow_add-length-then-ne
overflow_add-length-then-ne g c =
    let f = g.F.Family.shape c.args.family.now in
    omega (arith, rest_bound c.args.sheet.now f.holds c.args.row.0 c.args.block.0, c.block_of.ensures.short, c.loop-number.invariant.3)

pub loop-number-preserved-then-ne : goal.loop-number-preserved-then-ne
loop-number-preserved-then-ne g c =
    let bs = blocks_of c.args.sheet.now in
    let j = c.args.block.0 in
    let m = c.in-Some.number.0 in
    let steps = c.in-Some.ensures.steps in
    let on = c.in-Some.ensures.goes.on tt in
    let other : m ≢ j = eqb-false m j (not-true _ (sym c.ne.ensures ∙ c.if-ne.true)) in (
      on.0,
      on.1,
      (subst (There (length bs)) steps c.loop-number.invariant.2).1,
      omega (arith, ap (λ k. length (rest bs j k)) steps, rest_longer bs j m c.next.new.self other, ap length c.block_of.ensures.value, c.loop-number.invariant.3),
    )

pub loop-number-preserved : goal.loop-number-preserved
loop-number-preserved g c =
    let bs = blocks_of c.args.sheet.now in
    let j = c.args.block.0 in
    let m = c.in-Some.number.0 in
    let steps = c.in-Some.ensures.steps in
    let on = c.in-Some.ensures.goes.on tt in
    let own = eqb-true m j (not-false _ (sym c.ne.ensures ∙ c.if-ne.false)) in (
      on.0,
      on.1,
      (subst (There (length bs)) steps c.loop-number.invariant.2).1,
      omega (arith, ap (λ k. length (rest bs j k)) steps, ap length (rest_own bs j m c.next.new.self own), c.loop-number.invariant.3),
    )

pub returns : goal.returns
returns g c =
    let bs = blocks_of c.args.sheet.now in
    let j = c.args.block.0 in
    omega (arith, ap length (rest_none bs j c.loop-number.number-iterator c.in-None.ensures.steps.0), c.loop-number.invariant.3)
