-- A block's rounds, sixteen at a time.
use Rattle.std.proofs.Common.{◌≡◌, ℕ, zero, suc, List, length, take, drop, sym, refl, ap, ◌∙◌}
use Rattle.std.specs.List.{fold}
use Rattle.std.specs.Simd.{first_chunks}
use Rattle.digests.specs.Strings.{Bytes}
use Rattle.sha256.specs.declared.state.State.{State}
use Rattle.sha256.specs.Parts.{sixteen_more}
use Rattle.sha256.specs.Sha256.{K0, K1, K2, K3, K, words, extended, schedule, rounds, added, compressed, hashed}
use Rattle.sha256.proofs.Extended.{by_sixteens, length_sixteen_more}
use Rattle.sha256.proofs.Summed.{sixteen}

length_words : (block : Bytes) → length (words block) ≡ 16
unfolding words
length_words block = refl

pub compressed_is : (s : State) (block : Bytes) (w0 w1 w2 w3 : List ℕ) → w0 ≡ words block → w1 ≡ sixteen_more w0 → w2 ≡ sixteen_more w1 → w3 ≡ sixteen_more w2
    → added (rounds K3 w3 (rounds K2 w2 (rounds K1 w1 (rounds K0 w0 s)))) s ≡ compressed s block
unfolding compressed schedule
compressed_is s block w0 w1 w2 w3 e0 e1 e2 e3 =
    let l0 = ap length e0 ∙ length_words block in
    let l1 = ap length e1 ∙ length_sixteen_more w0 l0 in
    let l2 = ap length e2 ∙ length_sixteen_more w1 l1 in
    let all = by_sixteens w0 w1 w2 w3 l0 l1 l2 e1 e2 e3 in
    ap (λ t. added t s) (sym (sixteen K0 K1 K2 K3 w0 w1 w2 w3 s (sym l0) (sym l1) (sym l2)) ∙ ap (λ ws. rounds K ws s) (sym all ∙ ap (extended 48) e0))

-- one block after the other
pub folded : (n : ℕ) (bs : Bytes) (s : State) → fold compressed s (first_chunks 64 n bs) ≡ hashed n bs s
unfolding hashed
folded zero bs s = refl
folded (suc n) bs s = folded n (drop 64 bs) (compressed s (take 64 bs))
