use Rattle.std.proofs.Common.{◌%◌, [], get_or, ap, ◌∙◌}
use Rattle.families.proofs.Products.{product_at}
use Rattle.families.proofs.fields.product_in.Goals as goal

pub returns : goal.returns
returns g c =
    let q = g.row.Q in
    let a = c.args.a in
    let b = c.args.b in
    rw (c.from.ensures, c.from-2.ensures)
    (ap (λ t. get_or (get_or t (a % q) []) (b % q) 0) c.requires.1 ∙ product_at q c.requires.0 a b)
