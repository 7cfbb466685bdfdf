-- What is told of a family. Assumes nothing.
use Rattle.std.specs.Prelude.{ℕ, List, [], ◌∷◌, ◌++◌, Ok, Err, codes, Result}
use Rattle.std.specs.List.{filter, range_with_len}
use Rattle.answers.specs.declared.Refusal.{Refusal}
use Rattle.answers.specs.Refusals.{shown_as, spaced}
use Rattle.families.specs.Shape.{Shape}
use Rattle.scripts.specs.Words.{Bytes}

-- the numbers that a family answers: kind, q, k, n, t and d
abbrev pub family_text : Shape → Bytes
family_text f = codes "family" ++ spaced (f.kind ∷ f.q ∷ f.k ∷ f.blocks ∷ f.rows ∷ f.strength ∷ [])

-- the rows from 1 to t that hold a block, rising
abbrev pub rows_of : Shape → ℕ → List ℕ
rows_of f block = filter (λ row. f.holds row block) (range_with_len 1 f.rows)

-- the rows of a block
abbrev pub rows_text : Shape → ℕ → Bytes
rows_text f block = codes "rows" ++ spaced (rows_of f block)

-- the text of an answer, or of the refusal
abbrev pub text_of : {A : Type 0} → (A → Bytes) → Result A Refusal → Bytes
text_of f (Ok a) = f a
text_of f (Err e) = shown_as e
