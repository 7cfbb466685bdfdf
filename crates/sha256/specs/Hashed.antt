-- The hash value over one block more, and over the padded end of a message.
use Rattle.std.specs.Prelude.{◌≡◌, ℕ, zero, suc, ◌+◌, ◌-◌, ◌*◌, ◌/◌, ◌%◌, ◌^◌, ◌≤◌, [], ◌∷◌, ◌++◌, length, take, drop, replicate, refl}
use Rattle.std.proofs.Common.{sym, ap, ◌∙◌, append_assoc, zero-add, arith, length-append, length-drop}
use Rattle.std.proofs.lemmas.List.{take-append-le, drop-append-le, take_all, nil_from_length, length-replicate}
use Rattle.digests.specs.Strings.{Bytes}
use Rattle.sha256.specs.declared.state.State.{State}
use Rattle.sha256.specs.Sha256.{initial, u64_bytes, padding, compressed, hashed, state_bytes, sha256_of}

hashed_append : (m n : ℕ) (bs cs : Bytes) (s : State) → length bs ≡ 64 * m → hashed (m + n) (bs ++ cs) s ≡ hashed n cs (hashed m bs s)
unfolding hashed
hashed_append zero n bs cs s e =
    let none : bs ≡ [] = nil_from_length bs (omega arith) in
    ap (λ k. hashed k (bs ++ cs) s) (zero-add n) ∙ ap (λ t. hashed n (t ++ cs) s) none
hashed_append (suc m) n bs cs s e =
    let count : suc m + n ≡ suc (m + n) = omega arith in
    let fits : 64 ≤ length bs = omega arith in
    ap (λ k. hashed k (bs ++ cs) s) count
    ∙ ap (λ t. hashed (m + n) (drop 64 (bs ++ cs)) (compressed s t)) (take-append-le 64 bs cs fits)
    ∙ ap (λ t. hashed (m + n) t (compressed s (take 64 bs))) (drop-append-le 64 bs cs fits)
    ∙ hashed_append m n (drop 64 bs) cs (compressed s (take 64 bs)) (length-drop 64 bs ∙ omega arith)

pub one_block : (bs : Bytes) (s : State) → length bs ≡ 64 → hashed 1 bs s ≡ compressed s bs
unfolding hashed
one_block bs s e = ap (compressed s) (take_all 64 bs (omega arith))

-- one block more
pub block_more : (bs block : Bytes) → length bs % 64 ≡ 0 → length block ≡ 64
    → compressed (hashed (length bs / 64) bs initial) block ≡ hashed (length (bs ++ block) / 64) (bs ++ block) initial
block_more bs block whole e =
    let m = length bs / 64 in
    let count : length (bs ++ block) / 64 ≡ m + 1 = omega (arith, length-append bs block) in
    sym (ap (λ k. hashed k (bs ++ block) initial) count ∙ hashed_append m 1 bs block initial (omega arith) ∙ one_block block (hashed m bs initial) e)

padding_mod : (n : ℕ) → padding (n % 2 ^ 64) ≡ padding n
unfolding padding
padding_mod n =
    let low : n % 2 ^ 64 % 64 ≡ n % 64 = omega arith in
    let bits : 8 * (n % 2 ^ 64) % 2 ^ 64 ≡ 8 * n % 2 ^ 64 = omega arith in
    ap (λ k. 0x80 ∷ (replicate ((119 - k) % 64) 0 ++ u64_bytes (8 * (n % 2 ^ 64) % 2 ^ 64))) low
    ∙ ap (λ k. 0x80 ∷ (replicate ((119 - n % 64) % 64) 0 ++ u64_bytes k)) bits

pub length_padding : (n : ℕ) → length (padding n) ≡ 9 + (119 - n % 64) % 64
unfolding padding
length_padding n =
    ap suc (length-append (replicate ((119 - n % 64) % 64) 0) (u64_bytes (8 * n % 2 ^ 64)) ∙ ap (λ k. k + 8) (length-replicate ((119 - n % 64) % 64) 0)) ∙ omega arith

-- the end of a message, behind whole blocks
pub finished : (bs last : Bytes) (count message : ℕ) → length bs % 64 ≡ 0 → count ≡ length bs % 2 ^ 64 → message ≡ (count + length last) % 2 ^ 64
    → state_bytes (hashed (length (last ++ padding message) / 64) (last ++ padding message) (hashed (length bs / 64) bs initial)) ≡ sha256_of (bs ++ last)
unfolding sha256_of
finished bs last count message whole is size =
    let n = length (bs ++ last) in
    let m = length bs / 64 in
    let low : message ≡ n % 2 ^ 64 = omega (arith, length-append bs last) in
    let pads : padding message ≡ padding n = ap padding low ∙ padding_mod n in
    let end = last ++ padding n in
    let joined : (bs ++ last) ++ padding n ≡ bs ++ end = append_assoc bs last (padding n) in
    let blocks : length (bs ++ end) / 64 ≡ m + length end / 64 = omega (arith, length-append bs end) in
    ap (λ t. state_bytes (hashed (length (last ++ t) / 64) (last ++ t) (hashed m bs initial))) pads
    ∙ ap state_bytes (sym (ap (λ k. hashed k (bs ++ end) initial) blocks ∙ hashed_append m (length end / 64) bs end initial (omega arith)))
    ∙ ap (λ t. state_bytes (hashed (length t / 64) t initial)) (sym joined)

pub length_sha256_of : (bs : Bytes) → length (sha256_of bs) ≡ 32
unfolding state_bytes sha256_of
length_sha256_of bs = refl

-- the number by which a seal names it
pub kind_known : (1 ≤ 1) × (1 ≤ 255)
kind_known = (omega arith, omega arith)
