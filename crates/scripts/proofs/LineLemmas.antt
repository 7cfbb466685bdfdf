-- The parts of a text are those that `split` gives.
use Rattle.std.proofs.Common.{◌≡◌, ℕ, Bool, true, false, cond, eqb, List, [], ◌∷◌, ◌++◌, Some, None, Option, sym, refl, ap, ◌∙◌, subst, append_assoc}
use Rattle.std.specs.List.{slice_split, onto_first}
use Rattle.std.specs.Fn.{CalledAt}
use Rattle.std.specs.Slice.Iter.{split_rest, split_done, split_callee, split_steps}
use Rattle.std.proofs.lemmas.Iterator.{YieldsList}
use Rattle.std.proofs.lemmas.Iterator.Splits.{YieldsList-from_slice_split}
use denote.Param.Members.{Mut}
use denote.Ref.{Bor}
use Rattle.std.proofs.lemmas.List.{append-nil}
use Rattle.scripts.specs.Words.{Bytes}
use Rattle.scripts.specs.Lines.{parts_behind}

-- parts of which the first has begun already
onto : Bytes → List Bytes → List Bytes
onto begun [] = begun ∷ []
onto begun (part ∷ parts) = (begun ++ part) ∷ parts

onto_more : (begun : Bytes) (x : ℕ) (parts : List Bytes) → onto (begun ++ x ∷ []) parts ≡ onto begun (onto_first x parts)
unfolding onto
onto_more begun x [] = refl
onto_more begun x (part ∷ parts) = ap (λ t. t ∷ parts) (append_assoc begun (x ∷ []) part)

onto_none : (xs : Bytes) (sep : ℕ) → onto [] (slice_split (λ b. eqb b sep) xs) ≡ slice_split (λ b. eqb b sep) xs
unfolding onto
onto_none [] sep = refl
onto_none (y ∷ ys) sep =
    elim (eqb y sep) as (λ v. onto [] (cond v ([] ∷ slice_split (λ b. eqb b sep) ys) (onto_first y (slice_split (λ b. eqb b sep) ys))) ≡ cond v ([] ∷ slice_split (λ b. eqb b sep) ys) (onto_first y (slice_split (λ b. eqb b sep) ys))) [
      | true ↦ refl
      | false ↦ elim (slice_split (λ b. eqb b sep) ys) as (λ ps. onto [] (onto_first y ps) ≡ onto_first y ps) [ [] ↦ refl | p ∷ ps ↦ refl ]
    ]

parts_onto : (sep : ℕ) (begun xs : Bytes) → parts_behind sep begun xs ≡ onto begun (slice_split (λ b. eqb b sep) xs)
unfolding parts_behind onto
parts_onto sep begun [] = ap (λ t. t ∷ []) (sym (append-nil begun))
parts_onto sep begun (x ∷ xs) =
    let parts = slice_split (λ b. eqb b sep) xs in
    elim (eqb x sep) as (λ v. cond v (begun ∷ parts_behind sep [] xs) (parts_behind sep (begun ++ x ∷ []) xs) ≡ onto begun (cond v ([] ∷ parts) (onto_first x parts))) [
      | true ↦ ap (λ t. t ∷ parts_behind sep [] xs) (sym (append-nil begun)) ∙ ap (λ ps. (begun ++ []) ∷ ps) (parts_onto sep [] xs ∙ onto_none xs sep)
      | false ↦ parts_onto sep (begun ++ x ∷ []) xs ∙ onto_more begun x parts
    ]

parts_split : (sep : ℕ) (xs : Bytes) → slice_split (λ b. eqb b sep) xs ≡ parts_behind sep [] xs
parts_split sep xs = sym (parts_onto sep [] xs ∙ onto_none xs sep)

-- the first three facts are the clauses `rest`, `done` and `closure` of the call, and the last is that the closure tests for the separator
pub yields_parts : {F : Type 0} {s : _} (sep : ℕ) (xs : Bytes) (g : Mut F (Bor ℕ × Unit {0}) Bool) {f : F} → split_rest s ≡ xs → split_done s ≡ false → split_callee s ≡ f
    → ((x : ℕ) (b : Bool) (q : F) → CalledAt g f x b q → (q ≡ f) × (b ≡ eqb x sep)) → YieldsList (split_steps g) (λ x. x.now) s (parts_behind sep [] xs)
yields_parts {s = s} sep xs g rest done closure tests =
    subst (YieldsList (split_steps g) (λ x. x.now) s) (parts_split sep xs) (YieldsList-from_slice_split g (λ b. eqb b sep) xs rest done closure tests)

-- one part more of those that an iterator yields, and the end
module _ {S A B : Type 0} {steps : S → Option A → S → Type 0} {v : A → B} {s t : S} where
  pub yields_more : (ys : List B) (x : A) → YieldsList steps v s ys → steps s (Some x) t → (rest : List B) × (ys ≡ v x ∷ rest) × YieldsList steps v t rest
  yields_more [] x a k = absurd (a.runs x t k)
  yields_more (y ∷ ys) x a k = let next = a.runs.1 x t k in (ys, ap (λ h. h ∷ ys) (sym next.0), record { runs = next.1 })

  pub yields_end : (ys : List B) → YieldsList steps v s ys → steps s None t → ys ≡ []
  yields_end [] a k = refl
  yields_end (y ∷ ys) a k = absurd (a.runs.0 t k)
