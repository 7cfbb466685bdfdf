-- Numbers that are named one after another, and the part that a seal leaves.
use Rattle.std.specs.Prelude.{◌≡◌, ℕ, suc, ◌+◌, ◌<◌, ◌≤◌, List, ◌∷◌, ◌++◌, length, take, drop, codes, decimal, refl, slice_index}
use Rattle.std.proofs.Common.{sym, ap, ◌∙◌, arith, append_assoc}
use Rattle.std.proofs.Math.Seq.{drop-cons, take-append_seam}
use Rattle.std.proofs.lemmas.List.{append-nil, nil_from_length, length-drop}
use Rattle.answers.specs.Refusals.{spaced}
use Rattle.scripts.specs.Words.{Bytes}

-- one number more
pub named_more : (xs : List ℕ) (i : ℕ) (old new all : Bytes) → i < length xs → new ≡ old ++ (codes " " ++ decimal (slice_index xs i))
    → old ++ spaced (drop i xs) ≡ all → new ++ spaced (drop (i + 1) xs) ≡ all
named_more xs i old new all low e f =
    let next : suc i ≡ i + 1 = omega arith in
    let here = drop-cons xs i 0 low ∙ ap (λ k. slice_index xs i ∷ drop k xs) next in
    ap (λ t. t ++ spaced (drop (i + 1) xs)) e
    ∙ append_assoc old (codes " " ++ decimal (slice_index xs i)) (spaced (drop (i + 1) xs))
    ∙ ap (λ t. old ++ (codes " " ++ t)) refl
    ∙ ap (λ ys. old ++ spaced ys) (sym here) ∙ f

pub named_all : (xs : List ℕ) (i : ℕ) (old all : Bytes) → length xs ≤ i → old ++ spaced (drop i xs) ≡ all → old ≡ all
named_all xs i old all low f =
    let none = nil_from_length (drop i xs) (length-drop i xs ∙ omega arith) in
    sym (append-nil old) ∙ ap (λ ys. old ++ spaced ys) (sym none) ∙ f

-- what a buffer begins with
pub front_of : (xs ys : Bytes) (n : ℕ) → length xs ≡ n → take n (xs ++ ys) ≡ xs
front_of xs ys n e = ap (λ k. take k (xs ++ ys)) (sym e) ∙ take-append_seam xs ys
