use Rattle.std.proofs.Common.{◌∙◌, arith}
use Rattle.families.specs.Lawful.{offered_range, degree_range}
use Rattle.families.proofs.PolynomialRows.{here_by, later_by}
use Rattle.families.proofs.polynomial.Polynomial.first_with.Goals as goal

pub returns-then-from-here : goal.returns-then-from-here
returns-then-from-here g c =
    let s = c.args.self.now in
    let f = s.field in
    let F = g.F.Field in
    let both =
    here_by (F.order f) (F.plus f) (F.times f) (g.met.F.Field.lawful f) s.k (omega (arith, (degree_range s.k s.degree).0)) c.args.element c.args.value
    c.from-q.result c.args.from c.constant_with.result (c.from-q.ensures ∙ c.q.ensures) (offered_range (F.order f) (g.met.F.Field.offered f)).1 c.requires.2
    c.constant_with.ensures c.if-from-here.true
    in
    record { first = both.0; bound = both.1 }

pub returns : goal.returns
returns g c =
    let s = c.args.self.now in
    let f = s.field in
    let F = g.F.Field in
    let both =
    later_by (F.order f) (F.plus f) (F.times f) (g.met.F.Field.lawful f) s.k (omega (arith, (degree_range s.k s.degree).0)) c.args.element c.args.value
    c.from-q.result c.args.from c.constant_with.result c.constant_with-2.result (c.from-q.ensures ∙ c.q.ensures) (offered_range (F.order f) (g.met.F.Field.offered f)).1 c.requires.2
    c.constant_with.ensures c.if-from-here.false c.constant_with-2.ensures
    in
    record { first = both.0; bound = both.1 }
