-- A binary field is one of those on offer.
use Rattle.std.specs.Prelude.{◌≡◌, true, [], ◌∷◌, refl}
use Rattle.families.specs.declared.fields.Binary.{Binary}
use Rattle.families.specs.declared.fields.Binary.TheVariants.{Eight, Sixteen}
use Rattle.families.specs.Numbers.{among}
use Rattle.families.specs.Degrees.{degree}

pub degree_known : (f : Binary) → among (degree f) (3 ∷ (4 ∷ [])) ≡ true
degree_known Eight = refl
degree_known Sixteen = refl
