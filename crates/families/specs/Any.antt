-- What a family of any kind answers. Assumes nothing.
use Rattle.std.specs.Prelude.{◌^◌}
use Rattle.families.specs.Shape.{Shape}
use Rattle.families.specs.Degrees.{degree}
use Rattle.families.specs.Field.{mod_sum, mod_product, binary_sum, binary_product, modulus}
use Rattle.families.specs.Single.{single_shape}
use Rattle.families.specs.Halves.{halves_shape}
use Rattle.families.specs.Plane.{plane_shape}
use Rattle.families.specs.Polynomial.{poly_shape}
use Rattle.families.specs.declared.any.AnyFamily.{AnyFamily}
use Rattle.families.specs.declared.any.AnyFamily.TheVariants.{Single, Halves, PrimePolynomial, BinaryPolynomial, Plane}

abbrev pub any_shape : AnyFamily → Shape
any_shape (Single f) = single_shape f.blocks.n
any_shape (Halves f) = halves_shape f.blocks.n
any_shape (PrimePolynomial f) = poly_shape f.field.q (mod_sum f.field.q) (mod_product f.field.q) f.k f.blocks.n
any_shape (BinaryPolynomial f) =
    poly_shape (2 ^ degree f.field) (binary_sum (degree f.field)) (binary_product (degree f.field) (modulus (degree f.field))) f.k f.blocks.n
any_shape (Plane f) = plane_shape f.blocks.n
