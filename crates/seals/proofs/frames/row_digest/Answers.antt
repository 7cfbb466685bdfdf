use Rattle.std.proofs.Common.{◌++◌, length, sym, ap, ◌∙◌, subst}
use Rattle.sheets.specs.Blocks.{blocks_of}
use Rattle.seals.specs.Images.{framed}
use Rattle.seals.specs.View.{viewed}
use Rattle.seals.proofs.Framed.{There, frames, row_there, row_start, frames_step, frames_end}
use Rattle.seals.proofs.frames.row_digest.Goals as goal

pub loop-number-init : goal.loop-number-init
loop-number-init g c =
    let f = g.F.Family.shape c.args.family.now in
    let v = c.args.blocks.now in
    let left = c.into_iter-number-iterator.ensures.into_iter_gives ∙ c.row_blocks-number-items.ensures in (
      tt,
      tt,
      rw left (row_there f c.args.row.0 (length (blocks_of v.sheet.now)) c.requires.count),
      (_, (c.start_row-digest.ensures, rw left (row_start f c.args.row.0 v c.requires.count))),
    )

pub block-requires-clause-there : goal.block-requires-clause-there
block-requires-clause-there g c = (subst (There (length (blocks_of c.args.blocks.now.sheet.now))) c.in-Some.ensures.steps c.loop-number.invariant.2).0

pub loop-number-preserved : goal.loop-number-preserved
loop-number-preserved g c =
    let v = c.args.blocks.now in
    let on = c.in-Some.ensures.goes.on tt in
    let old = c.loop-number.invariant.3 in
    let steps = c.in-Some.ensures.steps in (
      on.0,
      on.1,
      (subst (There (length (blocks_of v.sheet.now))) steps c.loop-number.invariant.2).1,
      (
        _,
        (
          c.take_frame.ensures old.0 old.1.0,
          ap (λ b. (old.0 ++ framed c.in-Some.number.0 b) ++ frames (viewed v) c.next.new.self) c.block.ensures.value
              ∙ frames_step (viewed v) old.0 c.in-Some.number.0 c.next.new.self _ (ap (λ k. old.0 ++ frames (viewed v) k) (sym steps) ∙ old.1.1),
        ),
      ),
    )

pub returns : goal.returns
returns g c =
    let old = c.loop-number.invariant.3 in
    c.end.ensures old.0 old.1.0
    ∙ ap g.D.Digest.digest (frames_end (viewed c.args.blocks.now) old.0 c.loop-number.number-iterator _ c.in-None.ensures.steps.0 old.1.1)
