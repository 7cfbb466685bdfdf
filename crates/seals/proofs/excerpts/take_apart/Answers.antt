use Rattle.std.proofs.Common.{◌≡◌, ◌≢◌, length, Some, None, sym, ap, ◌∙◌, arith}
use Rattle.std.specs.Option.{option_map}
use Rattle.std.proofs.lemmas.Bool.{eqb-true, eqb-false}
use Rattle.families.specs.Shape.{row_list}
use Rattle.seals.specs.Excerpts.{behind_frame}
use Rattle.seals.proofs.FirstFrame.{Small, behind_shorter}
use Rattle.seals.proofs.Taken.{place_among, turn_own, turn_other, turn_fails, turn_end, not_exact, exact_at_end, own_at_end}
use Rattle.seals.proofs.excerpts.take_apart.Goals as goal

pub loop-number-init : goal.loop-number-init
loop-number-init g c =
    let left = c.into_iter-number-iterator.ensures.into_iter_gives ∙ c.row_blocks-number-items.ensures in
    (tt, tt, omega arith, ap (λ ms. place_among (length c.args.excerpt.now) c.args.block.0 ms 0 c.args.excerpt.now) (sym left))

pub loop-number-preserved-then-eq : goal.loop-number-preserved-then-eq
loop-number-preserved-then-eq g c =
    let j = c.args.block.0 in
    let total = length c.args.excerpt.now in
    let whole = place_among total j (row_list (g.F.Family.shape c.args.family.now) c.args.row.0) 0 c.args.excerpt.now in
    let m = c.in-Some.number.0 in
    let on = c.in-Some.ensures.goes.on tt in
    let own = eqb-true m j (sym c.eq.ensures ∙ c.if-eq.true) in (
      on.0,
      on.1,
      c.loop-number.invariant.2,
      turn_own total j whole c.loop-number.number-iterator c.loop-number.place c.loop-number.left.now c.loop-number.invariant.3 m c.next.new.self c.in-Some.ensures.steps own,
    )

pub loop-number-preserved : goal.loop-number-preserved
loop-number-preserved g c =
    let j = c.args.block.0 in
    let total = length c.args.excerpt.now in
    let whole = place_among total j (row_list (g.F.Family.shape c.args.family.now) c.args.row.0) 0 c.args.excerpt.now in
    let m = c.in-Some.number.0 in
    let e = c.loop-number.left.now in
    let rest = c.in_ok-left.left.now in
    let on = c.in-Some.ensures.goes.on tt in
    let other : m ≢ j = eqb-false m j (sym c.eq.ensures ∙ c.if-eq.false) in
    let front : behind_frame m e ≡ Some rest = sym c.skip_frame.ensures ∙ ap (option_map (λ r. r.now)) c.in_ok-left.was in (
      on.0,
      on.1,
      omega (arith, c.loop-number.invariant.2, behind_shorter m e rest front),
      turn_other total j whole c.loop-number.number-iterator c.loop-number.place e c.loop-number.invariant.3 m c.next.new.self rest c.in-Some.ensures.steps other front,
    )

pub returns-in_err-left : goal.returns-in_err-left
returns-in_err-left g c =
    let f = g.F.Family.shape c.args.family.now in
    let j = c.args.block.0 in
    let total = length c.args.excerpt.now in
    let whole = place_among total j (row_list (g.F.Family.shape c.args.family.now) c.args.row.0) 0 c.args.excerpt.now in
    let m = c.in-Some.number.0 in
    let e = c.loop-number.left.now in
    let small : Small c.args.excerpt.now = λ k. omega (arith, c.type_inv.excerpt k) in
    let other : m ≢ j = eqb-false m j (sym c.eq.ensures ∙ c.if-eq.false) in
    let front : behind_frame m e ≡ None = sym c.skip_frame.ensures ∙ ap (option_map (λ r. r.now)) c.in_err-left.was in
    let none = turn_fails total j whole c.loop-number.number-iterator c.loop-number.place e c.loop-number.invariant.3 m c.next.new.self c.in-Some.ensures.steps other front in
    record {
      exact = rw c.from_residual.ensures (not_exact f (g.met.F.Family.lawful c.args.family.now) j c.args.row.0 c.requires c.args.excerpt.now small none);
      place = rw c.from_residual.ensures tt;
    }

pub returns : goal.returns
returns g c =
    let f = g.F.Family.shape c.args.family.now in
    let lawful = g.met.F.Family.lawful c.args.family.now in
    let j = c.args.block.0 in
    let total = length c.args.excerpt.now in
    let whole = place_among total j (row_list (g.F.Family.shape c.args.family.now) c.args.row.0) 0 c.args.excerpt.now in
    let left = c.loop-number.left.now in
    let small : Small c.args.excerpt.now = λ k. omega (arith, c.type_inv.excerpt k) in
    let end = turn_end total j whole c.loop-number.number-iterator c.loop-number.place left c.loop-number.invariant.3 c.in-None.ensures.steps.0 in
    record {
      exact = exact_at_end f lawful j c.args.row.0 c.requires c.args.excerpt.now small c.loop-number.place left end;
      place = own_at_end f lawful j c.args.row.0 c.requires c.args.excerpt.now small c.loop-number.place left end;
    }
