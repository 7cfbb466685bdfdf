-- What a reader answers. Assumes nothing.
use Rattle.std.specs.Prelude.{◌≡◌, Some, None, Ok, Err, codes, Option, Result}
use Rattle.std.specs.Option.{option_map, option_and_then}
use Rattle.scripts.specs.Words.{Bytes, first_word, behind_word}
use Rattle.scripts.specs.declared.error.ParseError.{ParseError}
use Rattle.scripts.specs.declared.error.ParseError.TheVariants.{NotUnderstood, OutOfMemory}

abbrev pub error_text : ParseError → Bytes
error_text NotUnderstood = codes "not understood"
error_text (OutOfMemory a) = codes "out of memory"

-- An answer is what was said, and is refused where nothing was; but memory may be short.
abbrev pub Reads : {A B : Type 0} → (A → B) → Option B → Result A ParseError → Type 0
Reads f said (Ok a) = said ≡ Some (f a)
Reads f said (Err NotUnderstood) = said ≡ None
Reads f said (Err (OutOfMemory a)) = Unit {0}

-- the next word, and then what stands behind it
abbrev pub next_as : {A B : Type 0} → (Bytes → Option A) → (A → Option Bytes → Option B) → Option Bytes → Option B
next_as read f None = None
next_as read f (Some words) = option_and_then (λ a. f a (behind_word words)) (read (first_word words))

-- all that is left, as one last word
abbrev pub last_as : {A B : Type 0} → (Bytes → Option A) → (A → B) → Option Bytes → Option B
last_as read f None = None
last_as read f (Some word) = option_map f (read word)
