-- How an answer is told by a status, and what a call leaves in what it was lent. Assumes nothing.
use Rattle.std.specs.Prelude.{◌≡◌, ◌≢◌, ℕ, List, Ok, Err, None, Option, Result, slice_get}
use Rattle.std.specs.Option.{unwrap_or}
use Rattle.answers.specs.declared.Refusal.{Refusal}
use Rattle.answers.specs.Refusals.{number_of, values_of}
use Rattle.seals.specs.Calls.{lent_after}
use Rattle.desk.specs.declared.stop.Stop.{Stop}
use Rattle.desk.specs.declared.stop.Stop.TheVariants.{Refused, OutOfMemory}

-- 0, or the number of the refusal
abbrev pub status_of : {A : Type 0} → Result A Refusal → ℕ
status_of (Ok a) = 0
status_of (Err e) = number_of e

-- the status where memory did not suffice
abbrev pub out_of_memory : ℕ
out_of_memory = 255

-- why a call has no answer, as a status
abbrev pub stop_status : Stop → ℕ
stop_status (Refused e) = number_of e
stop_status (OutOfMemory e) = out_of_memory

-- the number that a refusal carries, if it does
abbrev pub stop_suspects : Stop → Option ℕ
stop_suspects (Refused e) = slice_get (values_of e) 0
stop_suspects (OutOfMemory e) = None

-- a number that a call is lent: what it answers, or what it was
abbrev pub set_by : {A : Type 0} → (A → ℕ) → Result A Refusal → ℕ → ℕ
set_by f (Ok a) before = f a
set_by f (Err e) before = before

-- the same of a count, which the refusal of too many suspects sets too
abbrev pub counted_by : {A : Type 0} → (A → ℕ) → Result A Refusal → ℕ → ℕ
counted_by f (Ok a) before = f a
counted_by f (Err e) before = unwrap_or (slice_get (values_of e) 0) before

-- a status tells this answer, unless memory did not suffice
abbrev pub Tells : {A : Type 0} → ℕ → Result A Refusal → Type 0
Tells status r = status ≢ out_of_memory → status ≡ status_of r

-- what was lent is then this, and where memory did not suffice as it was
abbrev pub Becomes : {A : Type 0} → ℕ → A → A → A → Type 0
Becomes status then before after = (status ≢ out_of_memory → after ≡ then) × (status ≡ out_of_memory → after ≡ before)

-- what a call that may lack memory leaves in what it was lent; where it lacks memory, all is as it was
abbrev pub Leaves : {B : Type 0} → Result B Stop → Result (List ℕ) Refusal → List ℕ → List ℕ → Type 0
Leaves (Ok b) r before after = after ≡ lent_after r before
Leaves (Err (Refused e)) r before after = after ≡ lent_after r before
Leaves (Err (OutOfMemory e)) r before after = after ≡ before
