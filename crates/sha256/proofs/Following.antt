-- The words that follow sixteen.
use Rattle.std.proofs.Common.{◌≡◌, ℕ, ◌+◌, ◌%◌, ◌^◌, [], ◌∷◌, refl, ap, ◌∙◌, arith}
use Rattle.sha256.specs.Parts.{four_more}
use Rattle.sha256.specs.Sha256.{σ0, σ1, plus, extended}

-- a word from four others, as the standard adds them
abbrev word : ℕ → ℕ → ℕ → ℕ → ℕ
word s x r y = (s + x + r + y) % 2 ^ 32

module _ (w0 w1 w2 w3 w4 w5 w6 w7 w8 w9 w10 w11 w12 w13 w14 w15 : ℕ) where
  four_more_at : four_more (w0 ∷ (w1 ∷ (w2 ∷ (w3 ∷ (w4 ∷ (w5 ∷ (w6 ∷ (w7 ∷ (w8 ∷ (w9 ∷ (w10 ∷ (w11 ∷ (w12 ∷ (w13 ∷ (w14 ∷ (w15 ∷ []))))))))))))))))
      ≡ word (σ1 w14) w9 (σ0 w1) w0 ∷ (word (σ1 w15) w10 (σ0 w2) w1
      ∷ (word (σ1 (word (σ1 w14) w9 (σ0 w1) w0)) w11 (σ0 w3) w2
      ∷ (word (σ1 (word (σ1 w15) w10 (σ0 w2) w1)) w12 (σ0 w4) w3 ∷ [])))
  unfolding four_more extended
  four_more_at = refl

σ1_none : σ1 0 ≡ 0
unfolding σ1
σ1_none = refl

-- the sums in the order in which the code adds them
low : (y r x s : ℕ) → plus (plus (plus y r) x) s ≡ word s x r y
low y r x s = omega arith

-- one word more, with nothing added where its lane waits
waits : (y r x s : ℕ) → plus (plus (plus (plus y r) x) s) (σ1 0) ≡ word s x r y
waits y r x s = ap (λ z. plus (plus (plus (plus y r) x) s) z) σ1_none ∙ omega arith

late : (y r x s : ℕ) → plus (plus (plus (plus y r) x) (σ1 0)) s ≡ word s x r y
late y r x s = ap (λ z. plus (plus (plus (plus y r) x) z) s) σ1_none ∙ omega arith

module _ (w0 w1 w2 w3 w4 w5 w6 w7 w8 w9 w10 w11 w12 w13 w14 w15 : ℕ) where
  pub following : (first second : ℕ) → first ≡ plus (plus (plus w0 (σ0 w1)) w9) (σ1 w14) → second ≡ plus (plus (plus w1 (σ0 w2)) w10) (σ1 w15)
      → plus first (σ1 0) ∷ (plus second (σ1 0) ∷ (plus (plus (plus (plus w2 (σ0 w3)) w11) (σ1 0)) (σ1 first) ∷ (plus (plus (plus (plus w3 (σ0 w4)) w12) (σ1 0)) (σ1 second) ∷ [])))
      ≡ four_more (w0 ∷ (w1 ∷ (w2 ∷ (w3 ∷ (w4 ∷ (w5 ∷ (w6 ∷ (w7 ∷ (w8 ∷ (w9 ∷ (w10 ∷ (w11 ∷ (w12 ∷ (w13 ∷ (w14 ∷ (w15 ∷ []))))))))))))))))
  following first second e f =
      let a = ap (λ z. plus z (σ1 0)) e ∙ waits w0 (σ0 w1) w9 (σ1 w14) in
      let b = ap (λ z. plus z (σ1 0)) f ∙ waits w1 (σ0 w2) w10 (σ1 w15) in
      let c = late w2 (σ0 w3) w11 (σ1 first) ∙ ap (λ z. word (σ1 z) w11 (σ0 w3) w2) (e ∙ low w0 (σ0 w1) w9 (σ1 w14)) in
      let d = late w3 (σ0 w4) w12 (σ1 second) ∙ ap (λ z. word (σ1 z) w12 (σ0 w4) w3) (f ∙ low w1 (σ0 w2) w10 (σ1 w15)) in
      let all = four_more_at w0 w1 w2 w3 w4 w5 w6 w7 w8 w9 w10 w11 w12 w13 w14 w15 in
      cc
