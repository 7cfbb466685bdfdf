use Rattle.std.proofs.Common.{length, sym, ap, ◌∙◌, subst, arith, ◌≢◌}
use Rattle.std.proofs.lemmas.Bool.{not-true, not-false, eqb-true, eqb-false}
use Rattle.sheets.specs.Blocks.{blocks_of}
use Rattle.seals.specs.Images.{row_rest}
use Rattle.seals.proofs.Framed.{There, row_there}
use Rattle.seals.proofs.Rest.{rest_of_row}
use Rattle.seals.proofs.Put.{PutSoFar, put_start, put_own, put_room, put_more, put_end}
use Rattle.seals.proofs.excerpts.put_rest.Goals as goal

pub loop-number-init : goal.loop-number-init
loop-number-init g c =
    let f = g.F.Family.shape c.args.family.now in
    let bs = blocks_of c.args.sheet.now in
    let left = c.into_iter-number-iterator.ensures.into_iter_gives ∙ c.row_blocks-number-items.ensures in (
      tt,
      tt,
      rw left (row_there f c.args.row.0 (length bs) c.requires.count),
      rw left (put_start bs c.args.block.0 _ c.args.out.now _ (rest_of_row f c.args.row.0 c.args.block.0 bs c.requires.count)),
    )

pub block_of-requires : goal.block_of-requires
block_of-requires g c = (subst (There (length (blocks_of c.args.sheet.now))) c.in-Some.ensures.steps c.loop-number.invariant.2).0

pub put_frame-place-requires : goal.put_frame-place-requires
put_frame-place-requires g c =
    let bs = blocks_of c.args.sheet.now in
    let j = c.args.block.0 in
    let m = c.in-Some.number.0 in
    let whole = row_rest (g.F.Family.shape c.args.family.now).holds c.args.row.0 j bs in
    let now = subst (λ ms. PutSoFar bs j ms whole c.args.out.now c.loop-number.out c.loop-number.place) c.in-Some.ensures.steps c.loop-number.invariant.3 in
    let other : m ≢ j = eqb-false m j (not-true _ (sym c.ne.ensures ∙ c.if-ne.true)) in
    let room = put_room bs j whole c.args.out.now c.loop-number.out c.loop-number.place m c.next.new.self now other in
    (omega (arith, c.block_of.ensures.short), omega (arith, room, ap length c.block_of.ensures.value, c.requires.room, c.loop-number.auto.out))

pub loop-number-preserved-then-ne : goal.loop-number-preserved-then-ne
loop-number-preserved-then-ne g c =
    let bs = blocks_of c.args.sheet.now in
    let j = c.args.block.0 in
    let m = c.in-Some.number.0 in
    let whole = row_rest (g.F.Family.shape c.args.family.now).holds c.args.row.0 j bs in
    let steps = c.in-Some.ensures.steps in
    let on = c.in-Some.ensures.goes.on tt in
    let now = subst (λ ms. PutSoFar bs j ms whole c.args.out.now c.loop-number.out c.loop-number.place) steps c.loop-number.invariant.3 in
    let other : m ≢ j = eqb-false m j (not-true _ (sym c.ne.ensures ∙ c.if-ne.true)) in (
      on.0,
      on.1,
      (subst (There (length bs)) steps c.loop-number.invariant.2).1,
      put_more bs j whole c.args.out.now c.loop-number.out c.loop-number.place m c.next.new.self now other c.block_of.result.now c.put_frame-place.new.out
          c.put_frame-place.result c.block_of.ensures.value c.put_frame-place.ensures.place c.put_frame-place.ensures.buffer,
    )

pub loop-number-preserved : goal.loop-number-preserved
loop-number-preserved g c =
    let bs = blocks_of c.args.sheet.now in
    let j = c.args.block.0 in
    let m = c.in-Some.number.0 in
    let whole = row_rest (g.F.Family.shape c.args.family.now).holds c.args.row.0 j bs in
    let steps = c.in-Some.ensures.steps in
    let on = c.in-Some.ensures.goes.on tt in
    let now = subst (λ ms. PutSoFar bs j ms whole c.args.out.now c.loop-number.out c.loop-number.place) steps c.loop-number.invariant.3 in
    let own = eqb-true m j (not-false _ (sym c.ne.ensures ∙ c.if-ne.false)) in (
      on.0,
      on.1,
      (subst (There (length bs)) steps c.loop-number.invariant.2).1,
      put_own bs j whole c.args.out.now c.loop-number.out c.loop-number.place m c.next.new.self now own,
    )

pub returns : goal.returns
returns g c =
    let bs = blocks_of c.args.sheet.now in
    let j = c.args.block.0 in
    let whole = row_rest (g.F.Family.shape c.args.family.now).holds c.args.row.0 j bs in
    put_end bs j whole c.args.out.now c.loop-number.out c.loop-number.place c.loop-number.number-iterator c.in-None.ensures.steps.0 c.loop-number.invariant.3
