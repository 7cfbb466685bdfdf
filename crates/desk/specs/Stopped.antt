-- What a call answers that may lack memory. Assumes nothing.
use Rattle.std.specs.Prelude.{◌≡◌, Ok, Err, Result}
use Rattle.answers.specs.declared.Refusal.{Refusal}
use Rattle.desk.specs.declared.stop.Stop.{Stop}
use Rattle.desk.specs.declared.stop.Stop.TheVariants.{Refused, OutOfMemory}

-- where memory sufficed, this is its answer
abbrev pub Answers : {A B : Type 0} → (B → A) → Result B Stop → Result A Refusal → Type 0
Answers f (Ok b) r = Ok (f b) ≡ r
Answers f (Err (Refused e)) r = Err e ≡ r
Answers f (Err (OutOfMemory e)) r = Unit {0}
