-- Rounds with the sums of constants and words.
use Rattle.std.proofs.Common.{◌≡◌, ℕ, ◌+◌, ◌%◌, ◌^◌, List, [], ◌∷◌, ◌++◌, length, get_or, sym, refl, ap, ◌∙◌, arith}
use lib.Lanes.{zip2}
use Rattle.std.proofs.lemmas.Simd.{pick_l_whole}
use Rattle.sha256.specs.declared.state.State.{State}
use Rattle.sha256.specs.Parts.{summed_round}
use Rattle.sha256.specs.Sha256.{plus, Σ0, Σ1, Ch, Maj, round_of, rounds}

sum_of_five : (h x y k w : ℕ) → (h + x + y + k + w) % 2 ^ 32 ≡ plus (plus (plus h x) y) (plus w k)
sum_of_five h x y k w = omega arith

round_summed : (s : State) (k w : ℕ) → round_of s k w ≡ summed_round s (plus w k)
unfolding round_of summed_round
round_summed s k w =
    ap (λ (t : ℕ). record { a = plus t (plus (Σ0 s.a) (Maj s.a s.b s.c)); b = s.a; c = s.b; d = s.c; e = plus s.d t; f = s.e; g = s.f; h = s.g })
    (sum_of_five s.h (Σ1 s.e) (Ch s.e s.f s.g) k w)

-- a list of four, written out
pub four : (xs : List ℕ) → length xs ≡ 4 → xs ≡ get_or xs 0 0 ∷ (get_or xs 1 0 ∷ (get_or xs 2 0 ∷ (get_or xs 3 0 ∷ [])))
four xs e = sym (pick_l_whole 0 xs 4 e)

four_at : (s : State) (k0 k1 k2 k3 w0 w1 w2 w3 : ℕ)
    → rounds (k0 ∷ (k1 ∷ (k2 ∷ (k3 ∷ [])))) (w0 ∷ (w1 ∷ (w2 ∷ (w3 ∷ [])))) s
    ≡ summed_round (summed_round (summed_round (summed_round s (plus w0 k0)) (plus w1 k1)) (plus w2 k2)) (plus w3 k3)
unfolding rounds
four_at s k0 k1 k2 k3 w0 w1 w2 w3 = simp round_summed

pub four_summed : (s : State) (ws ks sums : List ℕ) → length ws ≡ 4 → length ks ≡ 4 → sums ≡ zip2 plus ws ks
    → rounds ks ws s ≡ summed_round (summed_round (summed_round (summed_round s (get_or sums 0 0)) (get_or sums 1 0)) (get_or sums 2 0)) (get_or sums 3 0)
four_summed s ws ks sums e f is =
    let w = four ws e in
    let k = four ks f in
    let both = is ∙ ap (λ t. zip2 plus t ks) w ∙ ap (zip2 plus (get_or ws 0 0 ∷ (get_or ws 1 0 ∷ (get_or ws 2 0 ∷ (get_or ws 3 0 ∷ []))))) k in
    ap (λ t. rounds t ws s) k ∙ ap (λ t. rounds (get_or ks 0 0 ∷ (get_or ks 1 0 ∷ (get_or ks 2 0 ∷ (get_or ks 3 0 ∷ [])))) t s) w
    ∙ four_at s (get_or ks 0 0) (get_or ks 1 0) (get_or ks 2 0) (get_or ks 3 0) (get_or ws 0 0) (get_or ws 1 0) (get_or ws 2 0) (get_or ws 3 0)
    ∙ sym (ap (λ t. summed_round (summed_round (summed_round (summed_round s (get_or t 0 0)) (get_or t 1 0)) (get_or t 2 0)) (get_or t 3 0)) both)

pub rounds_append : (ks ls ws vs : List ℕ) (s : State) → length ks ≡ length ws → rounds (ks ++ ls) (ws ++ vs) s ≡ rounds ls vs (rounds ks ws s)
unfolding rounds
rounds_append [] ls [] vs s e = refl
rounds_append [] ls (w ∷ ws) vs s e = absurd (omega arith)
rounds_append (k ∷ ks) ls [] vs s e = absurd (omega arith)
rounds_append (k ∷ ks) ls (w ∷ ws) vs s e = rounds_append ks ls ws vs (round_of s k w) (omega arith)

-- sixteen rounds, four at a time
pub sixteen : (k0 k1 k2 k3 w0 w1 w2 w3 : List ℕ) (s : State) → length k0 ≡ length w0 → length k1 ≡ length w1 → length k2 ≡ length w2
    → rounds (k0 ++ (k1 ++ (k2 ++ k3))) (w0 ++ (w1 ++ (w2 ++ w3))) s ≡ rounds k3 w3 (rounds k2 w2 (rounds k1 w1 (rounds k0 w0 s)))
sixteen k0 k1 k2 k3 w0 w1 w2 w3 s e0 e1 e2 =
    rounds_append k0 (k1 ++ (k2 ++ k3)) w0 (w1 ++ (w2 ++ w3)) s e0
    ∙ rounds_append k1 (k2 ++ k3) w1 (w2 ++ w3) (rounds k0 w0 s) e1
    ∙ rounds_append k2 k3 w2 w3 (rounds k1 w1 (rounds k0 w0 s)) e2
