use Rattle.std.proofs.Common.{◌≡◌, suc, ◌-◌, ◌/◌, ◌%◌, sym, ap, ◌∙◌, ap₂, arith}
use Rattle.families.specs.Polynomial.{digits, value}
use Rattle.families.proofs.polynomial.+value_at.Goals as goal

pub returns : goal.returns
returns g t c =
    let f = c.args.field.now in
    let q = g.F.Field.order f in
    let sum = g.F.Field.plus f in
    let product = g.F.Field.times f in
    let more : c.args.k ≡ suc (c.args.k - 1) = omega arith in
    let higher : c.value_at-rest.result ≡ value sum product (digits q (c.args.k - 1) (c.args.number / q)) c.args.element
    = c.value_at-rest.ensures ∙ ap (λ x. value sum product (digits q (c.args.k - 1) x) c.args.element) (c.split_digit-digit.ensures.higher ∙ ap (λ p. c.args.number / p) c.q.ensures) in
    c.sum.ensures
    ∙ ap₂ sum (c.split_digit-digit.ensures.digit ∙ ap (λ p. c.args.number % p) c.q.ensures) (c.product.ensures ∙ ap (product c.args.element) higher)
    ∙ ap (λ k. value sum product (digits q k c.args.number) c.args.element) (sym more)
