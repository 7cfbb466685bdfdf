-- One byte more in hex, and what is written reads back.
use Rattle.std.proofs.Common.{◌≡◌, ◌≢◌, ℕ, zero, suc, ◌+◌, ◌-◌, ◌*◌, ◌/◌, ◌%◌, ◌<◌, ◌≤◌, true, false, cond, ◌&&◌, ltb, leb, [], ◌∷◌, ◌++◌, length, get_or, take, drop, Some, None, Option, sym, refl, ap, ◌∙◌, append_assoc, set, length-set, arith}
use Rattle.std.specs.Option.{option_map}
use Rattle.std.specs.List.{AllByRecursion}
use Rattle.std.specs.Simd.{first_chunks}
use Rattle.std.specs.Str.{IsAscii, IsUtf8}
use Rattle.std.proofs.lemmas.List.{append-nil, get_or-take, get_or-drop, take_more, take_more_set, drop_more, drop_all}
use Rattle.std.proofs.lemmas.Bool.{cond-true, cond-false, ne_eqb}
use Rattle.std.proofs.lemmas.Bool.Decides.{nat_tests}
use Rattle.std.proofs.lemmas.Str.{IsUtf8-from_ascii}
use Rattle.std.proofs.lemmas.Str.Ascii.{IsAscii-nil, IsAscii-cons}
use Rattle.scripts.specs.Words.{Bytes, is_digit}
use Rattle.scripts.specs.Hex.{hex_value, both, pair_value, pairs_bytes, hex_bytes, hex_digit, pair_text, pairs_text, hex_text}

-- the bytes of the pairs
pub chunk_at : (n i k : ℕ) (word : Bytes) (d : Bytes) → i < n → k < 2 → get_or (get_or (first_chunks 2 n word) i d) k 0 ≡ get_or word (2 * i + k) 0
chunk_at zero i k word d h l = absurd (omega arith)
chunk_at (suc n) zero k word d h l = let same : 2 * 0 + k ≡ k = omega arith in rw same (get_or-take 2 word k 0 l)
chunk_at (suc n) (suc i) k word d h l =
    let same : 2 + (2 * i + k) ≡ 2 * suc i + k = omega arith in
    chunk_at n i k (drop 2 word) d (omega arith) l ∙ get_or-drop 2 word (2 * i + k) 0 ∙ ap (λ j. get_or word j 0) same

module _ (word : Bytes) (i : ℕ) (h : 2 * i + 1 < length word) where
  two_at : drop (2 * i) word ≡ get_or word (2 * i) 0 ∷ (get_or word (2 * i + 1) 0 ∷ drop (2 * (i + 1)) word)
  two_at =
      let next : (2 * i + 1) + 1 ≡ 2 * (i + 1) = omega arith in
      drop_more word (2 * i) 0 (omega arith) ∙ ap (λ t. get_or word (2 * i) 0 ∷ t) (drop_more word (2 * i + 1) 0 h ∙ ap (λ n. get_or word (2 * i + 1) 0 ∷ drop n word) next)

  pairs_at : (o : Option ℕ) → o ≡ pair_value (get_or word (2 * i) 0) (get_or word (2 * i + 1) 0)
      → pairs_bytes (drop (2 * i) word) ≡ both (λ b bs. b ∷ bs) o (pairs_bytes (drop (2 * (i + 1)) word))
  unfolding pairs_bytes
  pairs_at o e = ap pairs_bytes two_at ∙ ap (λ p. both (λ b bs. b ∷ bs) p (pairs_bytes (drop (2 * (i + 1)) word))) (sym e)

  pub pairs_more : (items : Bytes) (b : ℕ) → Some b ≡ pair_value (get_or word (2 * i) 0) (get_or word (2 * i + 1) 0)
      → option_map (λ t. (items ++ b ∷ []) ++ t) (pairs_bytes (drop (2 * (i + 1)) word)) ≡ option_map (λ t. items ++ t) (pairs_bytes (drop (2 * i) word))
  pairs_more items b e =
      let rest = pairs_bytes (drop (2 * (i + 1)) word) in
      let joins : option_map (λ t. (items ++ b ∷ []) ++ t) rest ≡ option_map (λ t. items ++ t) (option_map (λ bs. b ∷ bs) rest)
      = elim rest as (λ o. option_map (λ t. (items ++ b ∷ []) ++ t) o ≡ option_map (λ t. items ++ t) (option_map (λ bs. b ∷ bs) o)) [ None ↦ refl | Some t ↦ ap (λ x. Some x) (append_assoc items (b ∷ []) t) ] in
      joins ∙ ap (option_map (λ t. items ++ t)) (sym (pairs_at (Some b) e))

  pub pairs_stop : (items : Bytes) → None ≡ pair_value (get_or word (2 * i) 0) (get_or word (2 * i + 1) 0) → None ≡ option_map (λ t. items ++ t) (pairs_bytes (drop (2 * i) word))
  pairs_stop items e = ap (option_map (λ t. items ++ t)) (sym (pairs_at None e))

pub pairs_all : (word items : Bytes) (i : ℕ) → length word ≤ 2 * i → Some items ≡ option_map (λ t. items ++ t) (pairs_bytes (drop (2 * i) word))
unfolding pairs_bytes
pairs_all word items i h = sym (ap (λ t. option_map (λ bs. items ++ bs) (pairs_bytes t)) (drop_all (2 * i) word h) ∙ ap (λ x. Some x) (append-nil items))

-- an odd number of digits
pub pairs_odd : (word : Bytes) (k : ℕ) → length word ≡ 2 * k + 1 → None ≡ pairs_bytes word
unfolding pairs_bytes
pairs_odd [] k h = absurd (omega arith)
pairs_odd (x ∷ []) k h = refl
pairs_odd (x ∷ (y ∷ xs)) k h =
    let rest = pairs_odd xs (k - 1) (omega arith) in
    let none : (o : Option ℕ) → None ≡ both (λ b bs. b ∷ bs) o None = λ o. elim o as (λ p. None ≡ both (λ b bs. b ∷ bs) p None) [ None ↦ refl | Some b ↦ refl ] in
    none (pair_value x y) ∙ ap (both (λ b bs. b ∷ bs) (pair_value x y)) rest

pub hex_none : (word : Bytes) → length word ≡ 0 → hex_bytes word ≡ None
unfolding hex_bytes
hex_none [] h = refl
hex_none (x ∷ xs) h = absurd (omega arith)

pub hex_dash : (word : Bytes) → word ≡ 45 ∷ [] → hex_bytes word ≡ Some []
unfolding hex_bytes
hex_dash word e = rw e refl

pub hex_pairs : (word : Bytes) → 0 < length word → word ≢ 45 ∷ [] → pairs_bytes word ≡ hex_bytes word
unfolding hex_bytes pairs_bytes
hex_pairs [] h ne = absurd (omega arith)
hex_pairs (x ∷ []) h ne = sym (cond-false _ _ _ (ne_eqb x 45 (λ e. ne (ap (λ b. b ∷ []) e))))
hex_pairs (x ∷ (y ∷ xs)) h ne = refl

pub ruleset hex_cases = (hex_none, hex_dash, hex_pairs)

pairs_append : (xs ys : Bytes) → pairs_text (xs ++ ys) ≡ pairs_text xs ++ pairs_text ys
unfolding pairs_text
pairs_append [] ys = refl
pairs_append (x ∷ xs) ys = ap (λ t. hex_digit (x / 16) ∷ (hex_digit (x % 16) ∷ t)) (pairs_append xs ys)

-- one byte more of the text
text_next : (bytes : Bytes) (i : ℕ) → i < length bytes → pairs_text (take i bytes) ++ pair_text (get_or bytes i 0) ≡ pairs_text (take (i + 1) bytes)
unfolding pairs_text
text_next bytes i h = sym (pairs_append (take i bytes) (get_or bytes i 0 ∷ [])) ∙ ap pairs_text (sym (take_more bytes i 0 h))

-- its digits, stored behind those before it
pub digits_next : (digits bytes : Bytes) (i : ℕ) (pair : Bytes) → i < length bytes → 2 * i + 1 < length digits → pair ≡ pair_text (get_or bytes i 0)
    → take (2 * i) digits ≡ pairs_text (take i bytes)
    → take (2 * (i + 1)) (set (set digits (2 * i) (get_or pair 0 0)) (2 * i + 1) (get_or pair 1 0)) ≡ pairs_text (take (i + 1) bytes)
digits_next digits bytes i pair h long same so_far =
    let high = get_or pair 0 0 in
    let low = get_or pair 1 0 in
    let one = set digits (2 * i) high in
    let size : length one ≡ length digits = length-set digits (2 * i) high in
    let next : 2 * (i + 1) ≡ (2 * i + 1) + 1 = omega arith in
    ap (λ n. take n (set one (2 * i + 1) low)) next
    ∙ take_more_set one (2 * i + 1) low (omega arith)
    ∙ ap (λ t. t ++ low ∷ []) (take_more_set digits (2 * i) high (omega arith))
    ∙ append_assoc (take (2 * i) digits) (high ∷ []) (low ∷ [])
    ∙ ap (λ t. t ++ high ∷ (low ∷ [])) so_far
    ∙ ap (λ (p : Bytes). pairs_text (take i bytes) ++ get_or p 0 0 ∷ (get_or p 1 0 ∷ [])) same
    ∙ text_next bytes i h

pairs_ascii : (bs : Bytes) → AllByRecursion (λ b. b < 256) bs → IsAscii (pairs_text bs)
unfolding pairs_text
pairs_ascii [] a = IsAscii-nil
pairs_ascii (b ∷ bs) a =
    let digit : (d : ℕ) → d < 16 → hex_digit d < 128 = λ d h. grind (arith, nat_tests) in
    let low = IsAscii-cons (hex_digit (b % 16)) (pairs_text bs) (digit (b % 16) (omega arith)) (pairs_ascii bs a.1) in
    IsAscii-cons (hex_digit (b / 16)) (hex_digit (b % 16) ∷ pairs_text bs) (digit (b / 16) (omega arith)) low

pub pairs_utf8 : (bs : Bytes) → AllByRecursion (λ b. b < 256) bs → IsUtf8 (pairs_text bs)
pairs_utf8 bs a = IsUtf8-from_ascii (pairs_text bs) (pairs_ascii bs a)

-- the text of a first piece, and of the rest
pub text_parts : (all piece rest done : Bytes) → all ≡ piece ++ rest → (done ++ pairs_text piece) ++ pairs_text rest ≡ done ++ pairs_text all
text_parts all piece rest done e =
    append_assoc done (pairs_text piece) (pairs_text rest) ∙ ap (λ t. done ++ t) (sym (pairs_append piece rest) ∙ ap pairs_text (sym e))

pub text_over : (rest done : Bytes) → length rest ≡ 0 → done ++ pairs_text rest ≡ done
unfolding pairs_text
text_over [] done h = append-nil done
text_over (b ∷ bs) done h = absurd (omega arith)

pub text_none : (bytes : Bytes) → length bytes ≡ 0 → 45 ∷ [] ≡ hex_text bytes
unfolding hex_text
text_none [] h = refl
text_none (b ∷ bs) h = absurd (omega arith)

pub text_pairs : (bytes : Bytes) → 0 < length bytes → pairs_text bytes ≡ hex_text bytes
unfolding hex_text
text_pairs [] h = absurd (omega arith)
text_pairs (b ∷ bs) h = refl

pub text_begun : (bytes : Bytes) → [] ≡ pairs_text (take 0 bytes)
unfolding pairs_text
text_begun bytes = refl

value_back : (d : ℕ) → d < 16 → hex_value (hex_digit d) ≡ Some d
value_back d h =
    let low : ltb d 10 ≡ true → hex_value (48 + d) ≡ Some d
    = λ l. let yes-digit : is_digit (48 + d) ≡ true = grind (arith, nat_tests) in let same : (48 + d) - 48 ≡ d = omega arith in cond-true _ _ _ yes-digit ∙ ap (λ n. Some n) same in
    let high : ltb d 10 ≡ false → hex_value (87 + d) ≡ Some d
    = λ l. let no_digit : is_digit (87 + d) ≡ false = grind (arith, nat_tests) in
    let letter : (leb 97 (87 + d) && leb (87 + d) 102) ≡ true = grind (arith, nat_tests) in
    let same : (87 + d) - 87 ≡ d = omega arith in
    cond-false _ _ _ no_digit ∙ cond-true _ _ _ letter ∙ ap (λ n. Some n) same in
    (elim (ltb d 10) as (λ v. (ltb d 10 ≡ v) → hex_value (cond v (48 + d) (87 + d)) ≡ Some d) [ true ↦ low | false ↦ high ]) refl

pair_back : (b : ℕ) → b < 256 → pair_value (hex_digit (b / 16)) (hex_digit (b % 16)) ≡ Some b
pair_back b h =
    let whole : b / 16 * 16 + b % 16 ≡ b = omega arith in
    ap (λ o. both (λ x y. x * 16 + y) o (hex_value (hex_digit (b % 16)))) (value_back (b / 16) (omega arith))
    ∙ ap (λ o. option_map (λ y. b / 16 * 16 + y) o) (value_back (b % 16) (omega arith)) ∙ ap (λ n. Some n) whole

pairs_back : (bs : Bytes) → AllByRecursion (λ b. b < 256) bs → pairs_bytes (pairs_text bs) ≡ Some bs
unfolding pairs_bytes pairs_text
pairs_back [] a = refl
pairs_back (b ∷ bs) a =
    ap (λ o. both (λ x xs. x ∷ xs) o (pairs_bytes (pairs_text bs))) (pair_back b a.0) ∙ ap (option_map (λ xs. b ∷ xs)) (pairs_back bs a.1)

pub hex_back : (bs : Bytes) → AllByRecursion (λ b. b < 256) bs → hex_bytes (hex_text bs) ≡ Some bs
unfolding hex_bytes hex_text pairs_text
hex_back [] a = refl
hex_back (b ∷ bs) a = pairs_back (b ∷ bs) a
