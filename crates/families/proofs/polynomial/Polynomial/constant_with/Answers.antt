use Rattle.std.proofs.Common.{◌≡◌, ◌+◌, ◌-◌, ◌*◌, sym, ap, ap₂, ◌∙◌, subst, slice_index}
use Rattle.families.specs.Polynomial.{digits, Only}
use Rattle.families.proofs.PolynomialRows.{only_opposite}
use Rattle.families.proofs.polynomial.Polynomial.constant_with.Goals as goal

pub returns : goal.returns
returns g c =
    let s = c.args.self.now in
    let F = g.F.Field in
    let q = F.order s.field in
    let sum = F.plus s.field in
    let product = F.times s.field in
    let higher = digits q (s.k - 1) c.args.higher in
    let place : c.from-3.result ≡ c.args.higher * q + c.args.element
    = c.from-3.ensures ∙ ap₂ (λ a b. c.args.higher * a + b) (c.from.ensures ∙ c.q.ensures) c.from-2.ensures in
    let opposite = s.negated (c.args.higher * q + c.args.element) c.requires.2 in
    subst (Only q sum product higher c.args.element c.args.value)
    (sym (c.from-4.ensures ∙ c.sum.ensures ∙ ap (λ x. sum c.args.value (slice_index s.negatives x)) place))
    (only_opposite q sum product (g.met.F.Field.lawful s.field) s.k c.args.higher c.args.element c.args.value
    (slice_index s.negatives (c.args.higher * q + c.args.element)) c.requires.0 c.requires.1 opposite)
