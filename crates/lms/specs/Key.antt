-- LMS keys, kind 2. Assumes nothing.
use Rattle.std.specs.Prelude.{ℕ, ◌-◌, [], ◌∷◌, Result, take, nat_lt}
use Rattle.answers.specs.declared.Refusal.{Refusal}
use Rattle.answers.specs.declared.Refusal.TheVariants.{NoSuchParameter}
use Rattle.answers.specs.Refusals.{unless}
use Rattle.digests.specs.Strings.{Bytes}
use Rattle.keys.specs.Key.{Key}

-- how many numbers a key has: one for each leaf
abbrev pub lms_limit : ℕ
lms_limit = 32

-- the key of that identifier whose next number is this one: its name is the first half of the identifier
abbrev pub lms_key : Bytes → ℕ → Key
lms_key id next = record { name = take 8 id; next = next; left = lms_limit - next; size = 1292 }

-- making a key from its identifier, its seed and its next number
abbrev pub lms_key_answer : Bytes → Bytes → ℕ → Result (Bytes × Bytes × Key) Refusal
lms_key_answer id seed next = unless ((nat_lt lms_limit next, NoSuchParameter) ∷ []) (id, seed, lms_key id next)
