-- A string is equal to itself.
use Rattle.std.specs.Prelude.{◌≡◌, true, ◌&&◌, [], ◌∷◌, refl}
use Rattle.std.proofs.Common.{ap, ◌∙◌, eq-eqb}
use Rattle.digests.specs.Strings.{Bytes, same}

pub same_self : (xs : Bytes) → same xs xs ≡ true
same_self [] = refl
same_self (x ∷ xs) = ap (λ b. b && same xs xs) (eq-eqb x x refl) ∙ same_self xs
