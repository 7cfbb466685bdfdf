-- The writes that pad the last bytes.
use Rattle.std.proofs.Common.{◌≡◌, ℕ, suc, ◌+◌, ◌-◌, ◌*◌, ◌/◌, ◌%◌, ◌^◌, ◌≤◌, List, [], ◌∷◌, ◌++◌, length, take, drop, set, replicate, refl, sym, ap, ◌∙◌, append_assoc, arith, length-drop}
use lib.Seq.{take-append-add}
use borrow.Rule.Slice.PartMut.{put_mid}
use Rattle.std.proofs.lemmas.List.{set_at, take-replicate, append-nil, nil_from_length}
use Rattle.digests.specs.Strings.{Bytes}
use Rattle.sha256.specs.declared.state.State.{State}
use Rattle.sha256.specs.Sha256.{u64_bytes, padding, hashed}

-- the padding of a message of n bytes, by the count of its last bytes
padding_is : (n count size : ℕ) → n % 64 ≡ count % 64 → (119 - count % 64) % 64 ≡ size - 9 - count → padding n ≡ 0x80 ∷ (replicate (size - 9 - count) 0 ++ u64_bytes (8 * n % 2 ^ 64))
unfolding padding
padding_is n count size e f = ap (λ k. 0x80 ∷ (replicate ((119 - k) % 64) 0 ++ u64_bytes (8 * n % 2 ^ 64))) e ∙ ap (λ k. 0x80 ∷ (replicate k 0 ++ u64_bytes (8 * n % 2 ^ 64))) f

-- the hash value over the blocks of the end
pub ends : (last blocks : Bytes) (n size : ℕ) (s : State) → n % 64 ≡ length last % 64 → (119 - length last % 64) % 64 ≡ size - 9 - length last
    → blocks ≡ last ++ (0x80 ∷ (replicate (size - 9 - length last) 0 ++ u64_bytes (8 * n % 2 ^ 64)))
    → hashed (length blocks / 64) blocks s ≡ hashed (length (last ++ padding n) / 64) (last ++ padding n) s
ends last blocks n size s e f is = ap (λ t. hashed (length t / 64) t s) (is ∙ ap (λ t. last ++ t) (sym (padding_is n (length last) size e f)))

module _ (last : List ℕ) (size : ℕ) (room : length last + 9 ≤ size) where
  marked : set (last ++ replicate (size - length last) 0) (length last) 0x80 ≡ last ++ (0x80 ∷ replicate (size - 1 - length last) 0)
  marked =
      let more : size - length last ≡ suc (size - 1 - length last) = omega arith in
      ap (λ k. set (last ++ replicate k 0) (length last) 0x80) more ∙ set_at last 0 (replicate (size - 1 - length last) 0) 0x80 (length last) refl

  front : take (size - 8) (last ++ (0x80 ∷ replicate (size - 1 - length last) 0)) ≡ last ++ (0x80 ∷ replicate (size - 9 - length last) 0)
  front =
      let cut : size - 8 ≡ length last + suc (size - 9 - length last) = omega arith in
      ap (λ k. take k (last ++ (0x80 ∷ replicate (size - 1 - length last) 0))) cut
      ∙ take-append-add last (0x80 ∷ replicate (size - 1 - length last) 0) (suc (size - 9 - length last))
      ∙ ap (λ t. last ++ (0x80 ∷ t)) (take-replicate (size - 9 - length last) (size - 1 - length last) 0 (omega arith))

  -- the mark is written behind the last bytes, and the count of bits at the end
  pub padded_is : (zeros bits : List ℕ) → zeros ≡ replicate (size - length last) 0
      → let all = set (last ++ zeros) (length last) 0x80 in put_mid (size - 8) (length all - (size - 8)) all bits ≡ last ++ (0x80 ∷ (replicate (size - 9 - length last) 0 ++ bits))
  padded_is zeros bits e =
      let all = set (last ++ zeros) (length last) 0x80 in
      let written : all ≡ last ++ (0x80 ∷ replicate (size - 1 - length last) 0) = ap (λ t. set (last ++ t) (length last) 0x80) e ∙ marked in
      let none : drop (length all - (size - 8)) (drop (size - 8) all) ≡ []
      = nil_from_length _ (length-drop (length all - (size - 8)) (drop (size - 8) all) ∙ omega (arith, length-drop (size - 8) all)) in
      ap (λ t. take (size - 8) all ++ (bits ++ t)) none
      ∙ ap (λ t. take (size - 8) all ++ t) (append-nil bits)
      ∙ ap (λ t. take (size - 8) t ++ bits) written
      ∙ ap (λ t. t ++ bits) front
      ∙ append_assoc last (0x80 ∷ replicate (size - 9 - length last) 0) bits
