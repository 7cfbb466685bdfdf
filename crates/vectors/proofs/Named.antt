-- A word that was read.
use Rattle.std.proofs.Common.{◌≡◌, ℕ, Ok, Err, Some, None, Option, Result, refl, sym, arith}
use Rattle.std.specs.Option.{ok_or}
use Rattle.std.proofs.lemmas.Grind.{common_steps}
use Rattle.scripts.specs.declared.error.ParseError.{ParseError}
use Rattle.scripts.specs.declared.error.ParseError.TheVariants.{NotUnderstood}

-- a reading that succeeds had this to read
pub was_read : {A : Type 0} (o : Option A) (a : A) → Ok a ≡ ok_or o NotUnderstood → o ≡ Some a
was_read None a e = absurd (grind (arith, e, common_steps))
was_read (Some b) a e = grind (arith, e, common_steps)
