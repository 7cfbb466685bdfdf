use Rattle.std.proofs.Common.{◌≤◌, ◌+◌, true, ◌++◌, [], length, sym, ap, ◌∙◌, inl, arith}
use Rattle.std.specs.Iterator.Adapters.{enumerate_source, enumerate_count}
use Rattle.sheets.specs.Calls.{total_bytes}
use Rattle.seals.specs.Images.{framed, framed_blocks}
use Rattle.seals.proofs.Framed.{fits, whole_start, whole_step, whole_end}
use Rattle.seals.proofs.frames.whole_digest.Goals as goal

pub loop-index-init : goal.loop-index-init
loop-index-init g c =
    let made = c.into_iter-index-iterator.ensures.into_iter_gives in
    let of = c.enumerate-index-items.ensures in
    let blocks = c.blocks-2.ensures in
    let left = ap enumerate_source made ∙ of.source ∙ blocks.value in
    let zero = ap enumerate_count made ∙ of.count in
    let few : length (enumerate_source c.into_iter-index-iterator.result) ≤ 512 = omega (arith, ap length left, ap length blocks.value, blocks.bound) in (
      (tt, tt, inl (omega (arith, few, zero))),
      tt,
      omega (arith, few, zero),
      rw left (fits c.args.sheet.now),
      (
        _,
        (
          c.take.ensures [] c.start-digest.ensures,
          whole_start c.args.sheet.now c.block_count.result c.to_be_bytes.result _ _ c.block_count.ensures.value c.to_be_bytes.ensures zero left,
        ),
      ),
    )

pub take_frame-requires : goal.take_frame-requires
take_frame-requires g c =
    let steps = c.in-Some.ensures.steps in
    omega (arith, ap total_bytes steps.0, c.loop-index.invariant.3)

pub loop-index-preserved : goal.loop-index-preserved
loop-index-preserved g c =
    let steps = c.in-Some.ensures.steps in
    let on = c.in-Some.ensures.goes.on tt in
    let n = enumerate_count c.loop-index.index-iterator in
    let old = c.loop-index.invariant.4 in (
      on.0,
      on.1,
      omega (arith, ap length steps.0, steps.1, steps.2, c.loop-index.invariant.2),
      omega (arith, ap total_bytes steps.0, c.loop-index.invariant.3),
      (
        _,
        (
          c.take_frame.ensures old.0 old.1.0,
          ap (λ k. (old.0 ++ framed (k + 1) c.in-Some.bytes.now) ++ framed_blocks (λ _. true) (enumerate_count c.next.new.self + 1) (enumerate_source c.next.new.self)) steps.1
              ∙ ap (λ k. (old.0 ++ framed (n + 1) c.in-Some.bytes.now) ++ framed_blocks (λ _. true) (k + 1) (enumerate_source c.next.new.self)) steps.2
              ∙ whole_step old.0 (n + 1) c.in-Some.bytes.now (enumerate_source c.next.new.self) _
              (ap (λ k. old.0 ++ framed_blocks (λ _. true) (n + 1) k) (sym steps.0) ∙ old.1.1),
        ),
      ),
    )

pub returns : goal.returns
returns g c =
    let old = c.loop-index.invariant.4 in
    c.end.ensures old.0 old.1.0
    ∙ ap g.D.Digest.digest (whole_end old.0 _ (enumerate_source c.loop-index.index-iterator) _ c.in-None.ensures.steps.0.0 old.1.1)
