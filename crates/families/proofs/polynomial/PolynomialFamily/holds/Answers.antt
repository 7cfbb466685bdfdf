use Rattle.std.proofs.Common.{ℕ, ◌-◌, ◌*◌, ◌/◌, ◌%◌, eqb, sym, ap, ap₂, ◌∙◌}
use Rattle.families.specs.Numbers.{within}
use Rattle.families.specs.Polynomial.{digits, value, poly_blocks}
use Rattle.families.specs.Bounded.{within_from}
use Rattle.families.proofs.PolynomialRows.{holds_at}
use Rattle.families.proofs.polynomial.PolynomialFamily.holds.Goals as goal

pub returns : goal.returns
returns g c =
    let s = c.args.self.now in
    let f = s.field in
    let q = g.F.Field.order f in
    let sum = g.F.Field.plus f in
    let product = g.F.Field.times f in
    let row = c.args.row.0 in
    let block = c.args.block.0 in
    let rows = within_from (q * q) row (ap (λ t. within t row) (sym c.row_count.ensures) ∙ sym c.if-not-is_within.ensures) in
    let blocks = within_from (poly_blocks q s.k s.blocks.n) block (ap (λ n. within n block) (sym c.block_count.ensures) ∙ sym c.if-not-is_within-2.ensures) in
    let at = λ (p : ℕ). eqb (value sum product (digits q s.k (block - 1)) ((row - 1) / p)) ((row - 1) % p) in
    ap₂ eqb (c.value_at.ensures ∙ ap (value sum product (digits q s.k (block - 1))) c.point_of-element.ensures.element) c.point_of-element.ensures.value
    ∙ ap at c.q.ensures
    ∙ sym (holds_at q sum product (g.met.F.Field.lawful f) s.k s.blocks.n row block rows.0 rows.1 blocks.0 blocks.1)
