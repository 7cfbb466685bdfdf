-- What is written at the front of a buffer.
use Rattle.std.proofs.Common.{◌≡◌, ℕ, min, List, [], ◌∷◌, ◌++◌, length, take, drop, refl, ap, ◌∙◌, arith, length-append, length-drop}

front : (xs ys : List ℕ) → take (length xs) (xs ++ ys) ≡ xs
front [] ys = refl
front (x ∷ xs) ys = ap (λ t. x ∷ t) (front xs ys)

-- as many of a buffer as were written
pub front_there : (xs old new : List ℕ) (n : ℕ) → new ≡ xs ++ drop (length xs) old → n ≡ length xs → take n new ≡ xs
front_there xs old new n e l = ap (λ k. take k new) l ∙ ap (take (length xs)) e ∙ front xs (drop (length xs) old)

-- no more were written than there was room for
pub named_there : (xs old new : List ℕ) (n : ℕ) → new ≡ xs ++ drop (length xs) old → length new ≡ length old → n ≡ length xs → take (min n (length new)) new ≡ xs
named_there xs old new n e same l =
    let few : min n (length new) ≡ n = omega (arith, ap length e, length-append xs (drop (length xs) old), length-drop (length xs) old, same, l) in
    ap (λ k. take k new) few ∙ front_there xs old new n e l
