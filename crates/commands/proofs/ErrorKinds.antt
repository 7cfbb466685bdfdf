-- Kinds of errors that no arm names.
use Rattle.std.proofs.Common.{◌≡◌, false, None, refl}
use Rattle.std.specs.declared.io.ErrorKind.{ErrorKind}
use Rattle.std.specs.declared.io.ErrorKind.TheVariants.{AlreadyExists, NotFound, IsADirectory, ResourceBusy}
use Rattle.commands.specs.Problems.{own_words, is_busy}

pub no_words : (k : ErrorKind) → (k ≡ AlreadyExists → ⊥) → (k ≡ NotFound → ⊥) → (k ≡ IsADirectory → ⊥) → own_words k ≡ None
unfolding own_words
no_words AlreadyExists a n d = absurd (a refl)
no_words NotFound a n d = absurd (n refl)
no_words IsADirectory a n d = absurd (d refl)
no_words _ a n d = refl

pub not_busy : (k : ErrorKind) → (k ≡ ResourceBusy → ⊥) → is_busy k ≡ false
unfolding is_busy
not_busy ResourceBusy b = absurd (b refl)
not_busy _ b = refl
