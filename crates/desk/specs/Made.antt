-- A seal part in memory of its own. Assumes nothing.
use Rattle.std.specs.Prelude.{ℕ, List, Ok, Result}
use Rattle.answers.specs.declared.Refusal.{Refusal}
use Rattle.answers.specs.Refusals.{on_ok}
use Rattle.digests.specs.Strings.{Bytes}
use Rattle.keys.specs.Key.{Key}
use Rattle.seals.specs.Scheme.{Scheme}
use Rattle.seals.specs.Part.{signed_part}
use Rattle.seals.specs.Calls.{seal_answer, part_length}

-- the seal part of these blocks under a drawn number, where there is room for it
unfoldable pub part_made : Scheme → ℕ → Key → (ℕ → Bytes → Bytes) → Bytes → ℕ → List Bytes → Result Bytes Refusal
part_made s kind key signature drawn_under number bs =
    on_ok (seal_answer s.family key drawn_under number bs (part_length s.family.rows key.size)) (λ _. Ok (signed_part s kind (signature number) number bs))
