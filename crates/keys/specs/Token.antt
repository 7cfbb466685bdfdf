-- A drawn number as a value. Assumes nothing.
use Rattle.std.specs.Prelude.{false, [], ◌∷◌, Result, ◌==◌}
use Rattle.answers.specs.declared.Refusal.{Refusal}
use Rattle.answers.specs.declared.Refusal.TheVariants.{NoneLeft}
use Rattle.answers.specs.Refusals.{unless}
use Rattle.keys.specs.Key.{Key}
use Rattle.keys.specs.declared.drawn.Drawn.{Drawn}

-- the key's next number, not spent yet, unless none is left
abbrev pub token_answer : Key → Result Drawn Refusal
token_answer key = unless (((key.left == 0), NoneLeft) ∷ []) (record { key = key.name; number = key.next; spent = false })
