use Rattle.std.proofs.Common.{◌≡◌, ℕ, ◌+◌, ◌%◌, ◌^◌, List, [], length, get_or, sym, refl, ap, ◌∙◌, arith, rules}
use lib.Bits.{bit_xor}
use Rattle.digests.specs.Strings.{Bytes}
use Rattle.blake2s.specs.Blake2s.{rotr, sigma, mixed, round}
use Rattle.blake2s.specs.States.{listed, of_columns, half_line, half_mixed, scheduled_words, slanted}
use Rattle.blake2s.proofs.Quads.{shown, as_shown}
use Rattle.blake2s.specs.declared.rounds.Rows.{Rows}
use Rattle.blake2s.proofs.rounds.turn.Goals as goal

-- G at each column, with two message words for a column
abbrev mixed_column : Rows → List ℕ → List ℕ → ℕ → ℕ × ℕ × ℕ × ℕ
mixed_column v x y i = mixed (get_or v.a i 0) (get_or v.b i 0) (get_or v.c i 0) (get_or v.d i 0) (get_or x i 0) (get_or y i 0)

abbrev mixed_each : Rows → List ℕ → List ℕ → Rows
mixed_each v x y = of_columns (mixed_column v x y 0) (mixed_column v x y 1) (mixed_column v x y 2) (mixed_column v x y 3)

three : (a b x : ℕ) → ((a + b) % 2 ^ 32 + x) % 2 ^ 32 ≡ (a + b + x) % 2 ^ 32
three a b x = omega arith

-- four lines of G, with the sum of three at once
abbrev line : ℕ → ℕ → ℕ → ℕ → ℕ → ℕ → ℕ → ℕ × ℕ × ℕ × ℕ
line n k a1 b c d x =
    let d1 = rotr (bit_xor d a1) n in
    let c1 = (c + d1) % 2 ^ 32 in
    let b1 = rotr (bit_xor b c1) k in
    (a1, b1, c1, d1)

lined : (n k a b c d x : ℕ) → half_line n k a b c d x ≡ line n k ((a + b + x) % 2 ^ 32) b c d x
lined n k a b c d x = ap (λ a1. line n k a1 b c d x) (three a b x)

-- the halves of G are G
column : (a b c d x y : ℕ) → let h = half_line 16 12 a b c d x in half_line 8 7 h.0 h.1 h.2 h.3 y ≡ mixed a b c d x y
unfolding mixed
column a b c d x y =
    let h = line 16 12 ((a + b + x) % 2 ^ 32) b c d x in
    ap (λ (t : ℕ × ℕ × ℕ × ℕ). half_line 8 7 t.0 t.1 t.2 t.3 y) (lined 16 12 a b c d x) ∙ lined 8 7 h.0 h.1 h.2 h.3 y

halves : (v : Rows) (x y : List ℕ) → half_mixed 8 7 (half_mixed 16 12 v x) y ≡ mixed_each v x y
halves v x y =
    let half : ℕ → ℕ × ℕ × ℕ × ℕ = λ i. let h = half_line 16 12 (get_or v.a i 0) (get_or v.b i 0) (get_or v.c i 0) (get_or v.d i 0) (get_or x i 0) in half_line 8 7 h.0 h.1 h.2 h.3 (get_or y i 0) in
    let whole = mixed_column v x y in
    let is : (i : ℕ) → half i ≡ whole i = λ i. column (get_or v.a i 0) (get_or v.b i 0) (get_or v.c i 0) (get_or v.d i 0) (get_or x i 0) (get_or y i 0) in
    ap (λ p. of_columns p (half 1) (half 2) (half 3)) (is 0)
    ∙ ap (λ p. of_columns (whole 0) p (half 2) (half 3)) (is 1)
    ∙ ap (λ p. of_columns (whole 0) (whole 1) p (half 3)) (is 2)
    ∙ ap (of_columns (whole 0) (whole 1) (whole 2)) (is 3)

-- the diagonals as columns, and back
abbrev across : Rows → List ℕ → List ℕ → Rows
across v x y = slanted (slanted (slanted (mixed_each (slanted v) x y)))

whole_round : (block : Bytes) (s : List ℕ) (v : Rows) →
    listed (across (mixed_each v (scheduled_words block s 0) (scheduled_words block s 1)) (scheduled_words block s 8) (scheduled_words block s 9)) ≡ round block (listed (shown v)) s
unfolding round
whole_round block s v = refl

pub returns : goal.returns
returns g c =
    let v = c.args.v in
    let la : length v.a ≡ 4 = search rules in
    let lb : length v.b ≡ 4 = search rules in
    let lc : length v.c ≡ 4 = search rules in
    let ld : length v.d ≡ 4 = search rules in
    let s = get_or sigma (g.row.R % 10) [] in
    let x = scheduled_words c.args.block.now s in
    let columns : c.mix-v.result ≡ mixed_each v (x 0) (x 1)
    = c.mix-v.ensures ∙ ap (λ p. half_mixed 8 7 (half_mixed 16 12 v p) c.words-2.result) c.words.ensures ∙ ap (half_mixed 8 7 (half_mixed 16 12 v (x 0))) c.words-2.ensures ∙ halves v (x 0) (x 1) in
    let diagonals : c.mix-v-2.result ≡ mixed_each c.slant.result (x 8) (x 9)
    = c.mix-v-2.ensures ∙ ap (λ p. half_mixed 8 7 (half_mixed 16 12 c.slant.result p) c.words-4.result) c.words-3.ensures ∙ ap (half_mixed 8 7 (half_mixed 16 12 c.slant.result (x 8))) c.words-4.ensures ∙ halves c.slant.result (x 8) (x 9) in
    let slants = diagonals ∙ ap (λ u. mixed_each u (x 8) (x 9)) (c.slant.ensures ∙ ap slanted columns) in
    ap listed (c.slant-4.ensures ∙ ap slanted (c.slant-3.ensures ∙ ap slanted (c.slant-2.ensures ∙ ap slanted slants))) ∙ whole_round c.args.block.now s v ∙ ap (λ u. round c.args.block.now (listed u) s) (sym (as_shown v la lb lc ld))
