use Rattle.std.proofs.Common.{◌≡◌, ◌+◌, ◌-◌, ◌*◌, ◌/◌, ◌%◌, sym, ap, ◌∙◌, subst, arith}
use Rattle.std.specs.Option.{option_map}
use Rattle.answers.specs.Numbers.{block_number}
use Rattle.families.specs.Numbers.{lowest, within}
use Rattle.families.specs.Polynomial.{poly_blocks, poly_holds, FirstWith}
use Rattle.families.specs.Bounded.{within_from, within_not}
use Rattle.families.specs.Lowest.{lowest_end}
use Rattle.families.proofs.PolynomialRows.{next_there, next_nowhere, next_outside}
use Rattle.families.proofs.polynomial.PolynomialFamily.next_block.Goals as goal

pub returns-then-not-is_within : goal.returns-then-not-is_within
returns-then-not-is_within g c =
    let s = c.args.self.now in
    let q = g.F.Field.order s.field in
    let row = c.args.row.0 in
    let out = within_not (q * q) row (ap (λ t. within t row) (sym c.row_count.ensures) ∙ sym c.if-not-is_within.ensures) in
    sym (ap (option_map block_number) (next_outside q (g.F.Field.plus s.field) (g.F.Field.times s.field) (g.met.F.Field.lawful s.field) s.k s.blocks.n row c.args.after.0 out))

pub returns-then-after-n : goal.returns-then-after-n
returns-then-after-n g c =
    let s = c.args.self.now in
    let q = g.F.Field.order s.field in
    let held = poly_holds q (g.F.Field.plus s.field) (g.F.Field.times s.field) s.k s.blocks.n c.args.row.0 in
    let none : poly_blocks q s.k s.blocks.n - c.args.after.0 ≡ 0 = omega (arith, c.block_count-n.ensures) in
    sym (ap (λ room. option_map block_number (lowest held (c.args.after.0 + 1) room)) none ∙ ap (option_map block_number) (lowest_end held (c.args.after.0 + 1)))

pub returns-then-next-n : goal.returns-then-next-n
returns-then-next-n g c =
    let s = c.args.self.now in
    let f = s.field in
    let q = g.F.Field.order f in
    let row = c.args.row.0 in
    let point = c.point_of-element.ensures in
    let inside = within_from (q * q) row (ap (λ t. within t row) (sym c.row_count.ensures) ∙ sym c.if-not-is_within.ensures) in
    let first = subst (λ e. FirstWith q (g.F.Field.plus f) (g.F.Field.times f) s.k e ((row - 1) % q) c.args.after.0 c.first_with-next.result)
    (point.element ∙ ap (λ p. (row - 1) / p) c.q.ensures)
    (subst (λ v. FirstWith q (g.F.Field.plus f) (g.F.Field.times f) s.k c.point_of-element.result.0 v c.args.after.0 c.first_with-next.result)
    (point.value ∙ ap (λ p. (row - 1) % p) c.q.ensures) c.first_with-next.ensures.first) in
    sym (ap (option_map block_number)
    (next_there q (g.F.Field.plus f) (g.F.Field.times f) (g.met.F.Field.lawful f) s.k s.blocks.n row inside.0 inside.1
    c.args.after.0 c.first_with-next.result first (omega (arith, c.block_count-n.ensures))))

pub returns-else-next-n : goal.returns-else-next-n
returns-else-next-n g c =
    let s = c.args.self.now in
    let f = s.field in
    let q = g.F.Field.order f in
    let row = c.args.row.0 in
    let point = c.point_of-element.ensures in
    let inside = within_from (q * q) row (ap (λ t. within t row) (sym c.row_count.ensures) ∙ sym c.if-not-is_within.ensures) in
    let first = subst (λ e. FirstWith q (g.F.Field.plus f) (g.F.Field.times f) s.k e ((row - 1) % q) c.args.after.0 c.first_with-next.result)
    (point.element ∙ ap (λ p. (row - 1) / p) c.q.ensures)
    (subst (λ v. FirstWith q (g.F.Field.plus f) (g.F.Field.times f) s.k c.point_of-element.result.0 v c.args.after.0 c.first_with-next.result)
    (point.value ∙ ap (λ p. (row - 1) % p) c.q.ensures) c.first_with-next.ensures.first) in
    sym (ap (option_map block_number)
    (next_nowhere q (g.F.Field.plus f) (g.F.Field.times f) (g.met.F.Field.lawful f) s.k s.blocks.n row inside.0 inside.1
    c.args.after.0 c.first_with-next.result (omega (arith, c.block_count-n.ensures)) first (omega (arith, c.block_count-n.ensures))))
