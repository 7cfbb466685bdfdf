use Rattle.families.proofs.fields.BinaryField.product.Goals as goal

pub returns-in-Eight : goal.returns-in-Eight
returns-in-Eight c = rw c.in-Eight.is c.product_in.ensures

pub returns-in-Sixteen : goal.returns-in-Sixteen
returns-in-Sixteen c = rw c.in-Sixteen.is c.product_in-in-Sixteen.ensures
