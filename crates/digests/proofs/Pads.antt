-- The masked key, byte by byte, and its part of one block.
use Rattle.std.proofs.Common.{◌≡◌, ℕ, zero, suc, ◌+◌, ◌-◌, ◌<◌, ◌≤◌, List, [], ◌∷◌, ◌++◌, map, length, get_or, take, set, replicate, sym, refl, ap, ◌∙◌, append_assoc, arith}
use lib.Bits.{bit_xor}
use lib.Seq.{take-append-add}
use lib.ListN.{length-map}
use Rattle.std.proofs.lemmas.List.{set_at, map_more, length-take-le, map-append, take-replicate}
use Rattle.digests.specs.Hmac.{under, padded}

-- what the first i bytes come to in front of the mask
abbrev pub front : ℕ → List ℕ → ℕ → List ℕ
front mask key i = under mask (take i key) ++ replicate (64 - i) mask

module _ (mask : ℕ) (key : List ℕ) (i : ℕ) where
  pub front_more : i < length key → length key ≡ 32 → set (front mask key i) i (bit_xor (get_or key i 0) mask) ≡ front mask key (i + 1)
  front_more h e =
      let rest : 64 - i ≡ suc (64 - (i + 1)) = omega arith in
      let long : length (under mask (take i key)) ≡ i = length-map (take i key) _ ∙ length-take-le i key (omega arith) in
      ap (λ n. set (under mask (take i key) ++ replicate n mask) i (bit_xor (get_or key i 0) mask)) rest
      ∙ set_at (under mask (take i key)) mask (replicate (64 - (i + 1)) mask) (bit_xor (get_or key i 0) mask) i long
      ∙ sym (ap (λ t. t ++ replicate (64 - (i + 1)) mask) (map_more (λ x. bit_xor x mask) key i 0 h)
      ∙ append_assoc (under mask (take i key)) (bit_xor (get_or key i 0) mask ∷ []) (replicate (64 - (i + 1)) mask))

map_replicate : (f : ℕ → ℕ) (n a : ℕ) → map f (replicate n a) ≡ replicate n (f a)
map_replicate f zero a = refl
map_replicate f (suc n) a = ap (λ t. f a ∷ t) (map_replicate f n a)

-- the first `block` bytes of the masked key are the pad
pub pad_part : (mask block : ℕ) (key : List ℕ) → length key ≡ 32 → 32 ≤ block → block ≤ 64
    → take block (under mask key ++ replicate 32 mask) ≡ padded mask block key
pad_part mask block key e low high =
    let n = block - 32 in
    let cut : block ≡ length (under mask key) + n = simp length-map (omega arith) in
    ap (λ m. take m (under mask key ++ replicate 32 mask)) cut
    ∙ take-append-add (under mask key) (replicate 32 mask) n
    ∙ ap (λ t. under mask key ++ t) (take-replicate n 32 mask (omega arith) ∙ sym (map_replicate (λ x. bit_xor x mask) n 0))
    ∙ sym (map-append (λ x. bit_xor x mask) key (replicate n 0))
