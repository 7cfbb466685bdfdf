use Rattle.std.proofs.Common.{◌≤◌, length, ap, ◌∙◌, subst, inl, arith}
use Rattle.std.specs.Iterator.Adapters.{enumerate_source, enumerate_count}
use Rattle.sheets.specs.Blocks.{blocks_of}
use Rattle.sheets.specs.Calls.{total_bytes}
use Rattle.seals.proofs.Framed.{fits}
use Rattle.files.specs.File.{frames}
use Rattle.files.proofs.Put.{PutSoFar, put_start, put_room, put_more, put_end}
use Rattle.files.proofs.packing.put_blocks.Goals as goal

pub loop-index-init : goal.loop-index-init
loop-index-init c =
    let made = c.into_iter-index-iterator.ensures.into_iter_gives in
    let of = c.enumerate-index-items.ensures in
    let blocks = c.blocks-2.ensures in
    let left = ap enumerate_source made ∙ of.source ∙ blocks.value in
    let zero = ap enumerate_count made ∙ of.count in
    let few : length (enumerate_source c.into_iter-index-iterator.result) ≤ 512 = omega (arith, ap length left, ap length blocks.value, blocks.bound) in (
      (tt, tt, inl (omega (arith, few, zero))),
      tt,
      omega (arith, few, zero),
      rw left (fits c.args.sheet.now),
      put_start (blocks_of c.args.sheet.now) _ _ c.args.out.now zero left,
    )

pub put_block-place-requires-clause-number : goal.put_block-place-requires-clause-number
put_block-place-requires-clause-number c =
    let steps = c.in-Some.ensures.steps in
    omega (arith, ap length steps.0, steps.1, c.loop-index.invariant.2)

pub put_block-place-requires-clause-short : goal.put_block-place-requires-clause-short
put_block-place-requires-clause-short c = omega (arith, ap total_bytes c.in-Some.ensures.steps.0, c.loop-index.invariant.3)

pub put_block-place-requires-clause-room : goal.put_block-place-requires-clause-room
put_block-place-requires-clause-room c =
    let whole = frames (blocks_of c.args.sheet.now) in
    let n = enumerate_count c.loop-index.index-iterator in
    let now = subst (λ bs. PutSoFar whole n bs c.args.out.now c.loop-index.out c.loop-index.place) c.in-Some.ensures.steps.0 c.loop-index.invariant.4 in
    let room = put_room whole c.args.out.now c.loop-index.out c.loop-index.place n c.in-Some.bytes.now (enumerate_source c.next.new.self) now in
    omega (arith, room, c.requires, c.loop-index.auto.out)

pub loop-index-preserved : goal.loop-index-preserved
loop-index-preserved c =
    let steps = c.in-Some.ensures.steps in
    let on = c.in-Some.ensures.goes.on tt in
    let whole = frames (blocks_of c.args.sheet.now) in
    let n = enumerate_count c.loop-index.index-iterator in
    let now = subst (λ bs. PutSoFar whole n bs c.args.out.now c.loop-index.out c.loop-index.place) steps.0 c.loop-index.invariant.4 in (
      on.0,
      on.1,
      omega (arith, ap length steps.0, steps.1, steps.2, c.loop-index.invariant.2),
      omega (arith, ap total_bytes steps.0, c.loop-index.invariant.3),
      put_more whole c.args.out.now c.loop-index.out c.loop-index.place n c.in-Some.bytes.now (enumerate_source c.next.new.self) now
          _ _ _ _ steps.1 steps.2 c.put_block-place.ensures.place c.put_block-place.ensures.buffer,
    )

pub returns : goal.returns
returns c =
    put_end (frames (blocks_of c.args.sheet.now)) c.args.out.now c.loop-index.out c.loop-index.place _ _ c.in-None.ensures.steps.0.0 c.requires c.loop-index.invariant.4
