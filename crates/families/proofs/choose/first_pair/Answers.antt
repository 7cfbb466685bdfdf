use Rattle.std.proofs.Common.{◌∙◌, arith}
use Rattle.std.proofs.ByRecursion.{All-get_or}
use Rattle.families.proofs.Fits.{Small, small_all, fit_here, fit_on, fit_none}
use Rattle.families.proofs.choose.first_pair.Goals as goal

pub is_fit-requires : goal.is_fit-requires
is_fit-requires c =
    let pairs = c.args.pairs.now in
    let small = All-get_or Small pairs c.loop-q.q-index (0, 0) (omega arith) (small_all pairs c.requires) in
    (small.0, small.1, small.2, small.3)

pub loop-q-preserved : goal.loop-q-preserved
loop-q-preserved c = fit_on c.args.n c.args.d c.loop-q.q-index c.args.pairs.now (omega arith) c.if-is_fit.ensures ∙ c.loop-q.invariant

pub returns-then-is_fit : goal.returns-then-is_fit
returns-then-is_fit c = fit_here c.args.n c.args.d c.loop-q.q-index c.args.pairs.now (omega arith) c.if-is_fit.ensures ∙ c.loop-q.invariant

pub returns : goal.returns
returns c = fit_none c.args.n c.args.d c.loop-q.q-index c.args.pairs.now (omega arith) ∙ c.loop-q.invariant
