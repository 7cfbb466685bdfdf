-- How words name a family, and what making it answers. Assumes nothing.
use Rattle.std.specs.Prelude.{ℕ, [], ◌∷◌, codes, Option, Result}
use Rattle.answers.specs.declared.Refusal.{Refusal}
use Rattle.families.specs.Shape.{Shape}
use Rattle.families.specs.Choice.{numbered_answer}
use Rattle.families.specs.Making.{single_answer, halves_answer, plane_answer}
use Rattle.scripts.specs.Words.{Bytes, entry_at, number_of}
use Rattle.scripts.specs.Reading.{next_as, last_as}
use Rattle.told.specs.declared.name.FamilyName.{FamilyName}
use Rattle.told.specs.declared.name.FamilyName.TheVariants as names
use Rattle.told.specs.declared.name.Kind.{Kind}
use Rattle.told.specs.declared.name.Kind.TheVariants as kinds

-- the first word of each kind
abbrev pub kind_of : Bytes → Option Kind
kind_of =
    entry_at
    ((codes "single", kinds.Single)
    ∷ ((codes "halves", kinds.Halves)
    ∷ ((codes "polynomial", kinds.Polynomial)
    ∷ ((codes "plane", kinds.Plane) ∷ []))))

-- the number of a block or a row, or a count of them; and the q or k of a polynomial family
abbrev pub count_of : Bytes → Option ℕ
count_of word = number_of word 65535

abbrev pub small_of : Bytes → Option ℕ
small_of word = number_of word 255

-- the name that a kind and the numbers behind it make
abbrev pub name_by : Kind → Option Bytes → Option FamilyName
name_by kinds.Single rest = last_as count_of names.Single rest
name_by kinds.Halves rest = last_as count_of names.Halves rest
name_by kinds.Polynomial rest = next_as small_of (λ q. next_as small_of (λ k. last_as count_of (names.Polynomial q k))) rest
name_by kinds.Plane rest = last_as count_of names.Plane rest

-- the family that words name, if they name one
abbrev pub family_named : Option Bytes → Option FamilyName
family_named = next_as kind_of name_by

-- what making it answers
abbrev pub name_answer : FamilyName → Result Shape Refusal
name_answer (names.Single n) = single_answer n
name_answer (names.Halves n) = halves_answer n
name_answer (names.Polynomial q k n) = numbered_answer q k n
name_answer (names.Plane n) = plane_answer n
