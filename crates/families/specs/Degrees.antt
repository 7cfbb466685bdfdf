-- The degrees of the binary fields' moduli. Assumes nothing.
use Rattle.std.specs.Prelude.{ℕ}
use Rattle.families.specs.declared.fields.Binary.{Binary}
use Rattle.families.specs.declared.fields.Binary.TheVariants.{Eight, Sixteen}

-- a field of degree e has 2^e elements
abbrev pub degree : Binary → ℕ
degree Eight = 3
degree Sixteen = 4
