-- The work vector as the code puts it together.
use Rattle.std.proofs.Common.{◌≡◌, ℕ, ◌/◌, ◌%◌, ◌^◌, ◌<◌, Bool, true, false, cond, List, [], ◌∷◌, ◌++◌, length, refl, ap, ◌∙◌, arith}
use lib.Bits.{bit_xor}
use lib.Lanes.{pick_l}
use Rattle.std.specs.List.{range_with_len}
use Rattle.std.proofs.lemmas.Simd.{pick_l_whole}
use Rattle.blake2s.specs.Blake2s.{work}

abbrev pub opened : List ℕ → ℕ → ℕ → ℕ → List ℕ
opened h low high flag =
    pick_l 0 h (range_with_len 0 8)
    ++ (0x6a09e667 ∷ 0xbb67ae85 ∷ 0x3c6ef372 ∷ 0xa54ff53a
    ∷ bit_xor 0x510e527f low ∷ bit_xor 0x9b05688c high ∷ bit_xor 0x1f83d9ab flag ∷ 0x5be0cd19 ∷ [])

by_flag : (h : List ℕ) (t : ℕ) (last : Bool) → opened h (t % 2 ^ 32) (t / 2 ^ 32 % 2 ^ 32) (cond last 0xffffffff 0) ≡ work (pick_l 0 h (range_with_len 0 8)) t last
by_flag h t true = refl
by_flag h t false = refl

pub begun : (h : List ℕ) (t flag : ℕ) (last : Bool) → length h ≡ 8 → t < 2 ^ 64 → flag ≡ cond last 0xffffffff 0 → opened h (t % 2 ^ 32) (t / 2 ^ 32) flag ≡ work h t last
begun h t flag last long fits is =
    let high : t / 2 ^ 32 ≡ t / 2 ^ 32 % 2 ^ 32 = omega arith in
    ap (λ x. opened h (t % 2 ^ 32) x flag) high
    ∙ ap (opened h (t % 2 ^ 32) (t / 2 ^ 32 % 2 ^ 32)) is
    ∙ by_flag h t last
    ∙ ap (λ k. work k t last) (pick_l_whole 0 h 8 long)
