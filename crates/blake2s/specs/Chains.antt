-- One block more of a message, the last one, and how long the answer is.
use Rattle.std.specs.Prelude.{◌≡◌, ℕ, zero, suc, ◌+◌, ◌-◌, ◌*◌, ◌/◌, ◌%◌, ◌^◌, ◌≤◌, true, false, ◌⊎◌, [], ◌++◌, length, take, drop, refl}
use Rattle.std.proofs.Common.{sym, ◌∙◌, ⊎_elim, arith, length-drop}
use Rattle.std.proofs.Math.Path.{ap}
use Rattle.std.proofs.Math.Nat.{mod-add-mod}
use Rattle.std.proofs.Math.ListN.{length-append}
use Rattle.std.proofs.lemmas.List.{take_all, take-append-le, drop-append-le, drop_at}
use Rattle.std.specs.List.{flat_map}
use Rattle.digests.specs.Strings.{Bytes}
use Rattle.blake2s.specs.Blake2s.{block_at, chained, compressed, filled, bytes_of, blake2s}

pub blake2s_length : (bs : Bytes) → length (blake2s bs) ≡ 32
unfolding blake2s compressed
blake2s_length bs = refl

-- a block that lies before what stands behind the message
block_front : (bs more : Bytes) (n : ℕ) → 64 * (n + 1) ≤ length bs → block_at (bs ++ more) n ≡ block_at bs n
block_front bs more n h =
    ap (take 64) (drop-append-le (64 * n) bs more (omega arith))
    ∙ take-append-le 64 (drop (64 * n) bs) more (simp length-drop (omega arith))

-- the block that follows whole ones
block_behind : (bs more : Bytes) (n : ℕ) → length bs ≡ 64 * n → length more ≤ 64 → block_at (bs ++ more) n ≡ more
block_behind bs more n e h = ap (take 64) (drop_at bs more (64 * n) e) ∙ take_all 64 more h

chained_front : (bs more : Bytes) (n : ℕ) → 64 * n ≤ length bs → chained (bs ++ more) n ≡ chained bs n
unfolding chained
chained_front bs more zero h = refl
chained_front bs more (suc n) h =
    ap (λ v. compressed v (block_at (bs ++ more) n) (64 * (n + 1) % 2 ^ 64) false) (chained_front bs more n (omega arith))
    ∙ ap (λ b. compressed (chained bs n) b (64 * (n + 1) % 2 ^ 64) false) (block_front bs more n (omega arith))

module _ (bs more : Bytes) (n : ℕ) (whole : length bs ≡ 64 * n) where
  -- the counter after one more piece
  pub counts : (count : ℕ) → count ≡ length bs % 2 ^ 64 → (count + length more) % 2 ^ 64 ≡ length (bs ++ more) % 2 ^ 64
  counts count is =
      ap (λ k. (k + length more) % 2 ^ 64) is
      ∙ mod-add-mod (length bs) (2 ^ 64) (length more)
      ∙ ap (λ k. k % 2 ^ 64) (sym (length-append bs more))

  pub chained_more : length more ≡ 64 → compressed (chained bs n) more (length (bs ++ more) % 2 ^ 64) false ≡ chained (bs ++ more) (suc n)
  unfolding chained
  chained_more long =
      let all : length (bs ++ more) ≡ 64 * (n + 1) = simp length-append (omega arith) in
      ap (λ v. compressed v more (length (bs ++ more) % 2 ^ 64) false) (sym (chained_front bs more n (omega arith)))
      ∙ ap (λ b. compressed (chained (bs ++ more) n) b (length (bs ++ more) % 2 ^ 64) false) (sym (block_behind bs more n whole (omega arith)))
      ∙ ap (λ t. compressed (chained (bs ++ more) n) (block_at (bs ++ more) n) (t % 2 ^ 64) false) all

  -- the blocks before the last one are those that went before
  before_last : length more ≤ 64 → (1 ≤ length more) ⊎ (bs ≡ []) → (length (bs ++ more) - 1) / 64 ≡ n
  before_last short some =
      let none : bs ≡ [] → length bs ≡ 0 = λ e. ap length e in
      simp length-append (⊎_elim (λ h. omega arith) (λ e. omega (arith, none e)) some)

  pub blake2s_last : length more ≤ 64 → (1 ≤ length more) ⊎ (bs ≡ [])
      → flat_map bytes_of (compressed (chained bs n) (filled more) (length (bs ++ more) % 2 ^ 64) true) ≡ blake2s (bs ++ more)
  unfolding blake2s
  blake2s_last short some =
      let all = bs ++ more in
      let closed : Bytes → Bytes → Bytes = λ h b. flat_map bytes_of (compressed h (filled b) (length all % 2 ^ 64) true) in
      ap (λ h. closed h more) (sym (chained_front bs more n (omega arith)))
      ∙ ap (closed (chained all n)) (sym (block_behind bs more n whole short))
      ∙ ap (λ k. closed (chained all k) (block_at all k)) (sym (before_last short some))

-- the number by which a seal names it
pub kind_known : (1 ≤ 2) × (2 ≤ 255)
kind_known = (omega arith, omega arith)
