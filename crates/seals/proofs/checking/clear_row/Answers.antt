use Rattle.std.proofs.Common.{◌-◌, true, ◌||◌, set, refl, sym, ap, ◌∙◌, subst, arith}
use Rattle.families.specs.Numbers.{among}
use Rattle.seals.specs.Cleared.{is_cleared}
use Rattle.seals.proofs.Framed.{There, row_there}
use Rattle.seals.proofs.Clearing.{among_row, clear_step, clear_end}
use Rattle.seals.proofs.checking.clear_row.Goals as goal

pub loop-number-init : goal.loop-number-init
loop-number-init g c =
    let f = g.F.Family.shape c.args.family.now in
    let law = g.met.F.Family.lawful c.args.family.now in
    let row = c.args.row.0 in
    let left = c.into_iter-number-iterator.ensures.into_iter_gives ∙ c.row_blocks-number-items.ensures in (
      tt,
      tt,
      rw left (row_there f row f.blocks refl),
      λ j low. ap (λ ms. is_cleared c.args.cleared.now j || among j ms) left ∙ ap (λ b. is_cleared c.args.cleared.now j || b) (among_row f law row j low),
    )

pub loop-number-preserved : goal.loop-number-preserved
loop-number-preserved g c =
    let f = g.F.Family.shape c.args.family.now in
    let law = g.met.F.Family.lawful c.args.family.now in
    let on = c.in-Some.ensures.goes.on tt in
    let steps = c.in-Some.ensures.steps in
    let there = subst (There f.blocks) steps c.loop-number.invariant.2 in
    let cleared = c.loop-number.cleared in
    let m = c.in-Some.number.0 in
    let left = c.next.new.self in (
      on.0,
      on.1,
      there.1,
      λ j low.
          ap (λ k. is_cleared (set cleared (k - 1) true) j || among j left) c.from.ensures
          ∙ clear_step cleared m j left there.0.0 (omega (arith, there.0.1, law.blocks_range)) low
          ∙ ap (λ ms. is_cleared cleared j || among j ms) (sym steps)
          ∙ c.loop-number.invariant.3 j low,
    )

pub returns : goal.returns
returns g c = λ j low.
    sym (clear_end (is_cleared c.loop-number.cleared j) j c.loop-number.number-iterator c.in-None.ensures.steps.0) ∙ c.loop-number.invariant.3 j low
