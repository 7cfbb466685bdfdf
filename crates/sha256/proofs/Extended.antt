-- The schedule in parts: a word depends on the sixteen before it alone.
use Rattle.std.proofs.Common.{◌≡◌, ℕ, zero, suc, ◌+◌, ◌-◌, ◌%◌, ◌^◌, ◌≤◌, List, [], ◌∷◌, ◌++◌, length, get_or, drop, sym, refl, ap, ◌∙◌, append_assoc, zero-add, arith, length-append, length-drop}
use Rattle.std.proofs.lemmas.List.{get_or-append-add, drop_at, append-nil, length_push}
use Rattle.sha256.specs.Parts.{four_more, sixteen_more}
use Rattle.sha256.specs.Sha256.{σ0, σ1, next_word, extended}

module _ (p q : List ℕ) (long : 16 ≤ length q) where
  back : (k : ℕ) → k ≤ 16 → get_or (p ++ q) (length (p ++ q) - k) 0 ≡ get_or q (length q - k) 0
  back k h =
      let at : length (p ++ q) - k ≡ length p + (length q - k) = omega (arith, length-append p q) in
      ap (λ n. get_or (p ++ q) n 0) at ∙ get_or-append-add p q (length q - k) 0

  next_behind : next_word (p ++ q) ≡ next_word q
  next_behind =
      let b2 = back 2 (omega arith) in
      let b7 = back 7 (omega arith) in
      let b15 = back 15 (omega arith) in
      let b16 = back 16 (omega arith) in
      ap (λ x. (σ1 x + get_or (p ++ q) (length (p ++ q) - 7) 0 + σ0 (get_or (p ++ q) (length (p ++ q) - 15) 0) + get_or (p ++ q) (length (p ++ q) - 16) 0) % 2 ^ 32) b2
      ∙ ap (λ x. (σ1 (get_or q (length q - 2) 0) + x + σ0 (get_or (p ++ q) (length (p ++ q) - 15) 0) + get_or (p ++ q) (length (p ++ q) - 16) 0) % 2 ^ 32) b7
      ∙ ap (λ x. (σ1 (get_or q (length q - 2) 0) + get_or q (length q - 7) 0 + σ0 x + get_or (p ++ q) (length (p ++ q) - 16) 0) % 2 ^ 32) b15
      ∙ ap (λ x. (σ1 (get_or q (length q - 2) 0) + get_or q (length q - 7) 0 + σ0 (get_or q (length q - 15) 0) + x) % 2 ^ 32) b16

extended_behind : (n : ℕ) (p q : List ℕ) → 16 ≤ length q → extended n (p ++ q) ≡ p ++ extended n q
unfolding extended
extended_behind zero p q long = refl
extended_behind (suc n) p q long =
    ap (λ x. extended n ((p ++ q) ++ x ∷ [])) (next_behind p q long)
    ∙ ap (extended n) (append_assoc p q (next_word q ∷ []))
    ∙ extended_behind n p (q ++ next_word q ∷ []) (omega (arith, length_push q (next_word q)))

extended_add : (m n : ℕ) (ws : List ℕ) → extended (m + n) ws ≡ extended n (extended m ws)
unfolding extended
extended_add zero n ws = ap (λ k. extended k ws) (zero-add n)
extended_add (suc m) n ws = let e : suc m + n ≡ suc (m + n) = omega arith in ap (λ k. extended k ws) e ∙ extended_add m n (ws ++ next_word ws ∷ [])

-- what is added stands behind
behind : (n : ℕ) (ws : List ℕ) → (more : List ℕ) × (extended n ws ≡ ws ++ more)
unfolding extended
behind zero ws = ([], sym (append-nil ws))
behind (suc n) ws =
    let rest = behind n (ws ++ next_word ws ∷ []) in
    (next_word ws ∷ rest.0, rest.1 ∙ append_assoc ws (next_word ws ∷ []) rest.0)

extended_is : (n : ℕ) (ws : List ℕ) → length ws ≡ 16 → extended n ws ≡ ws ++ drop 16 (extended n ws)
extended_is n ws e =
    let rest = behind n ws in
    rest.1 ∙ ap (λ t. ws ++ t) (sym (ap (drop 16) rest.1 ∙ drop_at ws rest.0 16 e))

-- a part in front, p, is done with once k words, x, are added
done : (k n : ℕ) (p q x : List ℕ) → length (p ++ q) ≡ 16 → 16 ≤ length (q ++ x) → x ≡ drop 16 (extended k (p ++ q)) → extended (k + n) (p ++ q) ≡ p ++ extended n (q ++ x)
done k n p q x e long is =
    extended_add k n (p ++ q) ∙ ap (extended n) (extended_is k (p ++ q) e ∙ ap (λ t. (p ++ q) ++ t) (sym is) ∙ append_assoc p q x) ∙ extended_behind n p (q ++ x) long

along : (a b c x : List ℕ) → (a ++ (b ++ c)) ++ x ≡ a ++ (b ++ (c ++ x))
along a b c x = append_assoc a (b ++ c) x ∙ ap (λ t. a ++ t) (append_assoc b c x)

long : (a b c d : List ℕ) (n : ℕ) → length a + (length b + (length c + length d)) ≡ n → length (a ++ (b ++ (c ++ d))) ≡ n
long a b c d n e = omega (arith, length-append a (b ++ (c ++ d)), length-append b (c ++ d), length-append c d)

module _ (a b c d x0 x1 x2 x3 : List ℕ) (la : length a ≡ 4) (lb : length b ≡ 4) (lc : length c ≡ 4) (ld : length d ≡ 4) (l0 : length x0 ≡ 4) (l1 : length x1 ≡ 4) (l2 : length x2 ≡ 4) where
  pub by_fours : x0 ≡ four_more (a ++ (b ++ (c ++ d))) → x1 ≡ four_more (b ++ (c ++ (d ++ x0))) → x2 ≡ four_more (c ++ (d ++ (x0 ++ x1))) → x3 ≡ four_more (d ++ (x0 ++ (x1 ++ x2)))
      → x0 ++ (x1 ++ (x2 ++ x3)) ≡ sixteen_more (a ++ (b ++ (c ++ d)))
  unfolding four_more sixteen_more
  by_fours e0 e1 e2 e3 =
      let w0 = long a b c d 16 (omega arith) in
      let w1 = long b c d x0 16 (omega arith) in
      let w2 = long c d x0 x1 16 (omega arith) in
      let w3 = long d x0 x1 x2 16 (omega arith) in
      let rest = x0 ++ (x1 ++ (x2 ++ x3)) in
      let s0 : extended 16 (a ++ (b ++ (c ++ d))) ≡ a ++ extended 12 (b ++ (c ++ (d ++ x0)))
      = done 4 12 a (b ++ (c ++ d)) x0 w0 (omega (arith, w1, ap length (along b c d x0))) e0 ∙ ap (λ t. a ++ extended 12 t) (along b c d x0) in
      let s1 : extended 12 (b ++ (c ++ (d ++ x0))) ≡ b ++ extended 8 (c ++ (d ++ (x0 ++ x1)))
      = done 4 8 b (c ++ (d ++ x0)) x1 w1 (omega (arith, w2, ap length (along c d x0 x1))) e1 ∙ ap (λ t. b ++ extended 8 t) (along c d x0 x1) in
      let s2 : extended 8 (c ++ (d ++ (x0 ++ x1))) ≡ c ++ extended 4 (d ++ (x0 ++ (x1 ++ x2)))
      = done 4 4 c (d ++ (x0 ++ x1)) x2 w2 (omega (arith, w3, ap length (along d x0 x1 x2))) e2 ∙ ap (λ t. c ++ extended 4 t) (along d x0 x1 x2) in
      let s3 : extended 4 (d ++ (x0 ++ (x1 ++ x2))) ≡ d ++ rest
      = extended_is 4 (d ++ (x0 ++ (x1 ++ x2))) w3 ∙ ap (λ t. (d ++ (x0 ++ (x1 ++ x2))) ++ t) (sym e3)
      ∙ append_assoc d (x0 ++ (x1 ++ x2)) x3 ∙ ap (λ t. d ++ t) (along x0 x1 x2 x3) in
      let all : extended 16 (a ++ (b ++ (c ++ d))) ≡ (a ++ (b ++ (c ++ d))) ++ rest
      = s0 ∙ ap (λ t. a ++ t) (s1 ∙ ap (λ t. b ++ t) (s2 ∙ ap (λ t. c ++ t) s3)) ∙ sym (append_assoc a (b ++ (c ++ d)) rest ∙ ap (λ t. a ++ t) (along b c d rest)) in
      sym (ap (drop 16) all ∙ drop_at (a ++ (b ++ (c ++ d))) rest 16 w0)

-- the whole schedule, sixteen words at a time
pub by_sixteens : (ws xs ys zs : List ℕ) → length ws ≡ 16 → length xs ≡ 16 → length ys ≡ 16 → xs ≡ sixteen_more ws → ys ≡ sixteen_more xs → zs ≡ sixteen_more ys
    → extended 48 ws ≡ ws ++ (xs ++ (ys ++ zs))
unfolding sixteen_more
by_sixteens ws xs ys zs lw lx ly e0 e1 e2 =
    let more : (n : ℕ) (us vs : List ℕ) → length us ≡ 16 → length vs ≡ 16 → vs ≡ drop 16 (extended 16 us) → extended (16 + n) us ≡ us ++ extended n vs
    = λ n us vs lu lv e. extended_add 16 n us ∙ ap (extended n) (extended_is 16 us lu ∙ ap (λ t. us ++ t) (sym e)) ∙ extended_behind n us vs (omega arith) in
    more 32 ws xs lw lx e0 ∙ ap (λ t. ws ++ t) (more 16 xs ys lx ly e1 ∙ ap (λ t. xs ++ t) (extended_is 16 ys ly ∙ ap (λ t. ys ++ t) (sym e2)))

length_extended : (n : ℕ) (ws : List ℕ) → length (extended n ws) ≡ n + length ws
unfolding extended
length_extended zero ws = sym (zero-add (length ws))
length_extended (suc n) ws = length_extended n (ws ++ next_word ws ∷ []) ∙ omega (arith, length_push ws (next_word ws))

pub length_sixteen_more : (ws : List ℕ) → length ws ≡ 16 → length (sixteen_more ws) ≡ 16
unfolding sixteen_more
length_sixteen_more ws e = length-drop 16 (extended 16 ws) ∙ omega (arith, length_extended 16 ws)
