-- What a key file says reads back as the same key.
use Rattle.std.proofs.Common.{◌≡◌, ℕ, ◌+◌, ◌-◌, ◌*◌, ◌/◌, ◌%◌, ◌<◌, ◌≤◌, true, false, cond, ◌&&◌, eqb, ltb, leb, [], ◌∷◌, ◌++◌, length, take, codes, decimal, Some, Option, sym, refl, ap, ◌∙◌, length-append, arith}
use Rattle.std.specs.Char.{digit_value}
use Rattle.std.specs.List.{AllByRecursion, list_all, position_or_len}
use Rattle.std.specs.Option.{option_map, option_and_then}
use Rattle.std.specs.Str.Parse.{AllDigits, digits_value_after}
use Rattle.std.proofs.Math.Seq.{take-append_seam}
use Rattle.std.proofs.lemmas.Bool.{cond-true, cond-false, ne_eqb}
use Rattle.std.proofs.lemmas.Bool.Decides.{nat_tests}
use Rattle.std.proofs.lemmas.Fmt.{decimal_is_IsNumeral}
use Rattle.std.proofs.lemmas.Str.{digit_value_digit}
use Rattle.std.proofs.lemmas.Str.Parse.{digit_from_value}
use Rattle.scripts.specs.Words.{Bytes, first_word, behind_word, is_digit, number_behind, at_most}
use Rattle.scripts.specs.Hex.{hex_digit, pairs_text, hex_text, hex_bytes, of_length, array_of}
use Rattle.scripts.specs.Reading.{next_as, last_as}
use Rattle.scripts.proofs.WordLemmas.{number_some}
use Rattle.told.specs.Algorithms.{algorithm_of, algorithm_name}
use Rattle.told.specs.declared.algorithm.Algorithm.{Algorithm}
use Rattle.told.specs.declared.algorithm.Algorithm.TheVariants.{Sha256, Blake2s}
use Rattle.keyfiles.specs.Words.{next_of}
use Rattle.keyfiles.specs.Files.{key_line_told, ends_line, only_line, key_file_told, key_line, key_file_text}
use Rattle.keyfiles.specs.declared.file.KeyFile.{KeyFile}
use Rattle.keyfiles.specs.declared.file.KeyFile.TheVariants.{Key, Public}
use Rattle.keyfiles.specs.declared.file.LmsPublicWords.{LmsPublicWords}
use Rattle.keyfiles.specs.declared.words.KeyWords.{KeyWords}
use Rattle.keyfiles.specs.declared.words.KeyWords.TheVariants.{Tag, Lms}
use Rattle.keyfiles.specs.declared.words.LmsWords.{LmsWords}
use Rattle.keyfiles.specs.declared.words.TagWords.{TagWords}

-- bytes above a space, which parts words, and above 0A, which ends lines
abbrev pub Wordy : Bytes → Type 0
Wordy = AllByRecursion (λ b. 32 < b)

abbrev pub Lined : Bytes → Type 0
Lined = AllByRecursion (λ b. 10 < b)

-- what `push_hex` says of its bytes
abbrev pub Back : Bytes → Type 0
Back bs = hex_bytes (hex_text bs) ≡ Some bs

-- the words of hex, of numbers and of digests

digit_above : (d : ℕ) → 32 < hex_digit d
digit_above d = elim (ltb d 10) as (λ v. 32 < cond v (48 + d) (87 + d)) [ true ↦ omega arith | false ↦ omega arith ]

pairs_wordy : (bs : Bytes) → Wordy (pairs_text bs)
unfolding pairs_text
pairs_wordy [] = tt
pairs_wordy (b ∷ bs) = (digit_above (b / 16), (digit_above (b % 16), pairs_wordy bs))

hex_wordy : (bs : Bytes) → Wordy (hex_text bs)
unfolding hex_text pairs_text
hex_wordy [] = (omega arith, tt)
hex_wordy (b ∷ bs) = (digit_above (b / 16), (digit_above (b % 16), pairs_wordy bs))

digits_wordy : (ds : Bytes) → AllDigits 10 ds → Wordy ds
digits_wordy [] a = tt
digits_wordy (c ∷ cs) a = (omega (arith, digit_from_value c a.0), digits_wordy cs a.1)

name_wordy : (a : Algorithm) → Wordy (algorithm_name a)
name_wordy Sha256 = (omega arith, (omega arith, (omega arith, (omega arith, (omega arith, (omega arith, tt))))))
name_wordy Blake2s = (omega arith, (omega arith, (omega arith, (omega arith, (omega arith, (omega arith, (omega arith, tt)))))))

name_back : (a : Algorithm) → algorithm_of (algorithm_name a) ≡ Some a
name_back Sha256 = refl
name_back Blake2s = refl

array_back : (n : ℕ) (bs : Bytes) → length bs ≡ n → Back bs → array_of n (hex_text bs) ≡ Some bs
array_back n bs l a =
    let all : eqb (length bs) n ≡ true = grind (arith, nat_tests) in
    ap (of_length n) a ∙ cond-true _ _ _ all

digits_back : (n : ℕ) (ds : Bytes) → AllDigits 10 ds → number_behind n ds ≡ Some (digits_value_after 10 n ds)
unfolding number_behind
digits_back n [] a = refl
digits_back n (c ∷ cs) a =
    let k = digit_from_value c a.0 in
    let low = k.0 in
    let high = k.1 in
    let digit : is_digit c ≡ true = grind (arith, nat_tests, low, high) in
    let same : n * 10 + (c - 48) ≡ n * 10 + digit_value c = omega (arith, digit_value_digit c k) in
    cond-true _ _ _ digit ∙ ap (λ m. number_behind m cs) same ∙ digits_back (n * 10 + digit_value c) cs a.1

module _ (n : ℕ) (h : n ≤ 4294967295) where
  decimal_wordy : Wordy (decimal n)
  decimal_wordy = digits_wordy (decimal n) (decimal_is_IsNumeral n (omega arith)).0.1

  next_back : next_of (decimal n) ≡ Some n
  next_back =
      let k = decimal_is_IsNumeral n (omega arith) in
      let within : leb n 4294967295 ≡ true = grind (arith, nat_tests) in
      sym (number_some (decimal n) 4294967295 k.0.0)
      ∙ ap (at_most 4294967295) (digits_back 0 (decimal n) k.0.1 ∙ ap (λ m. Some m) k.1)
      ∙ cond-true _ _ _ within

-- the next word, and the last

word_first : (w rest : Bytes) → Wordy w → first_word (w ++ 32 ∷ rest) ≡ w
unfolding first_word
word_first [] rest a = refl
word_first (x ∷ xs) rest a =
    let other : eqb x 32 ≡ false = ne_eqb x 32 (λ e. omega (arith, a.0)) in
    cond-false _ _ _ other ∙ ap (λ t. x ∷ t) (word_first xs rest a.1)

word_behind : (w rest : Bytes) → Wordy w → behind_word (w ++ 32 ∷ rest) ≡ Some rest
unfolding behind_word
word_behind [] rest a = refl
word_behind (x ∷ xs) rest a =
    let other : eqb x 32 ≡ false = ne_eqb x 32 (λ e. omega (arith, a.0)) in
    cond-false _ _ _ other ∙ word_behind xs rest a.1

next_word : {A B : Type 0} (read : Bytes → Option A) (f : A → Option Bytes → Option B) (w rest : Bytes) (a : A) → Wordy w → read w ≡ Some a
    → next_as read f (Some (w ++ 32 ∷ rest)) ≡ f a (Some rest)
next_word read f w rest a l e =
    ap (λ v. option_and_then (λ b. f b (behind_word (w ++ 32 ∷ rest))) (read v)) (word_first w rest l)
    ∙ ap (option_and_then (λ b. f b (behind_word (w ++ 32 ∷ rest)))) e
    ∙ ap (f a) (word_behind w rest l)

-- each kind of key

abbrev tag_of : Algorithm → Bytes → Bytes → ℕ → KeyWords
tag_of digest secret name next = Tag (record { digest = digest; secret = secret; name = name; next = next })

abbrev lms_of : Bytes → Bytes → ℕ → KeyWords
lms_of id seed next = Lms (record { id = id; seed = seed; next = next })

abbrev public_of : Bytes → Bytes → KeyFile
public_of id root = Public (record { id = id; root = root })

tag_back : (w : TagWords) → length w.secret ≡ 32 → Back w.secret → length w.name ≡ 8 → Back w.name → w.next ≤ 4294967295
    → key_line_told (key_line (Key (Tag w))) ≡ Some (Key (Tag w))
unfolding first_word behind_word
tag_back w l1 s1 l2 s2 h =
    let third = decimal w.next in
    let second = hex_text w.name ++ 32 ∷ third in
    let first = hex_text w.secret ++ 32 ∷ second in
    ap (option_map (λ k. Key k))
    (next_word algorithm_of (λ a. next_as (array_of 32) (λ secret. next_as (array_of 8) (λ name. last_as next_of (tag_of a secret name))))
    (algorithm_name w.digest) first w.digest (name_wordy w.digest) (name_back w.digest)
    ∙ next_word (array_of 32) (λ secret. next_as (array_of 8) (λ name. last_as next_of (tag_of w.digest secret name))) (hex_text w.secret) second w.secret (hex_wordy w.secret) (array_back 32 w.secret l1 s1)
    ∙ next_word (array_of 8) (λ name. last_as next_of (tag_of w.digest w.secret name)) (hex_text w.name) third w.name (hex_wordy w.name) (array_back 8 w.name l2 s2)
    ∙ ap (option_map (tag_of w.digest w.secret w.name)) (next_back w.next h))

lms_back : (w : LmsWords) → length w.id ≡ 16 → Back w.id → length w.seed ≡ 32 → Back w.seed → w.next ≤ 4294967295
    → key_line_told (key_line (Key (Lms w))) ≡ Some (Key (Lms w))
unfolding first_word behind_word
lms_back w l1 s1 l2 s2 h =
    let second = decimal w.next in
    let first = hex_text w.seed ++ 32 ∷ second in
    ap (option_map (λ k. Key k))
    (next_word (array_of 16) (λ id. next_as (array_of 32) (λ seed. last_as next_of (lms_of id seed))) (hex_text w.id) first w.id (hex_wordy w.id) (array_back 16 w.id l1 s1)
    ∙ next_word (array_of 32) (λ seed. last_as next_of (lms_of w.id seed)) (hex_text w.seed) second w.seed (hex_wordy w.seed) (array_back 32 w.seed l2 s2)
    ∙ ap (option_map (lms_of w.id w.seed)) (next_back w.next h))

public_back : (w : LmsPublicWords) → length w.id ≡ 16 → Back w.id → length w.root ≡ 32 → Back w.root → key_line_told (key_line (Public w)) ≡ Some (Public w)
unfolding first_word behind_word
public_back w l1 s1 l2 s2 =
    next_word (array_of 16) (λ id. last_as (array_of 32) (public_of id)) (hex_text w.id) (hex_text w.root) w.id (hex_wordy w.id) (array_back 16 w.id l1 s1)
    ∙ ap (option_map (public_of w.id)) (array_back 32 w.root l2 s2)

-- the line of a file

wordy_lined : (w rest : Bytes) → Wordy w → Lined rest → Lined (w ++ rest)
wordy_lined [] rest a b = b
wordy_lined (x ∷ xs) rest a b = (omega (arith, a.0), wordy_lined xs rest a.1 b)

-- bytes that a test of each finds above 0A
literal_lined : (xs rest : Bytes) → list_all (ltb 10) xs ≡ true → Lined rest → Lined (xs ++ rest)
literal_lined [] rest a b = b
literal_lined (x ∷ xs) rest a b =
    (elim (ltb 10 x) as (λ v. ltb 10 x ≡ v → (v && list_all (ltb 10) xs) ≡ true → Lined (x ∷ (xs ++ rest))) [
      | true ↦ λ e t. (grind (arith, nat_tests), literal_lined xs rest t b)
      | false ↦ λ e t. cc
    ]) refl a

wordy_alone : (w : Bytes) → Wordy w → Lined w
wordy_alone [] a = tt
wordy_alone (x ∷ xs) a = (omega (arith, a.0), wordy_alone xs a.1)

then_word : (w rest : Bytes) → Wordy w → Lined rest → Lined (w ++ 32 ∷ rest)
then_word w rest a b = wordy_lined w (32 ∷ rest) a (omega arith, b)

end_of : (line : Bytes) → Lined line → position_or_len ends_line (line ++ 10 ∷ []) ≡ length line
end_of [] a = refl
end_of (x ∷ xs) a =
    let other : eqb x 10 ≡ false = ne_eqb x 10 (λ e. omega (arith, a.0)) in
    let rest = end_of xs a.1 in rw other (omega (arith, rest))

line_back : (line : Bytes) → Lined line → only_line (line ++ 10 ∷ []) ≡ Some line
unfolding only_line
line_back line a =
    let at = end_of line a in
    let last : eqb (position_or_len ends_line (line ++ 10 ∷ []) + 1) (length (line ++ 10 ∷ [])) ≡ true
    = let long = length-append line (10 ∷ []) in grind (arith, nat_tests) in
    cond-true _ _ _ last ∙ ap (λ n. Some (take n (line ++ 10 ∷ []))) at ∙ ap (λ t. Some t) (take-append_seam line (10 ∷ []))

file_back : (k : KeyFile) → Lined (key_line k) → key_line_told (key_line k) ≡ Some k → key_file_told (key_file_text k) ≡ Some k
unfolding key_file_told
file_back k a e = ap (option_and_then key_line_told) (line_back (key_line k) a) ∙ e

pub tag_file_back : (w : TagWords) → length w.secret ≡ 32 → Back w.secret → length w.name ≡ 8 → Back w.name → w.next ≤ 4294967295
    → key_file_told (key_file_text (Key (Tag w))) ≡ Some (Key (Tag w))
tag_file_back w l1 s1 l2 s2 h =
    let third = decimal w.next in
    let second = hex_text w.name ++ 32 ∷ third in
    let first = hex_text w.secret ++ 32 ∷ second in
    file_back (Key (Tag w))
    (literal_lined (codes "nazkoiber key tag ") (algorithm_name w.digest ++ 32 ∷ first) refl
    (then_word (algorithm_name w.digest) first (name_wordy w.digest)
    (then_word (hex_text w.secret) second (hex_wordy w.secret)
    (then_word (hex_text w.name) third (hex_wordy w.name) (wordy_alone third (decimal_wordy w.next h))))))
    (tag_back w l1 s1 l2 s2 h)

pub lms_file_back : (w : LmsWords) → length w.id ≡ 16 → Back w.id → length w.seed ≡ 32 → Back w.seed → w.next ≤ 4294967295
    → key_file_told (key_file_text (Key (Lms w))) ≡ Some (Key (Lms w))
lms_file_back w l1 s1 l2 s2 h =
    let second = decimal w.next in
    let first = hex_text w.seed ++ 32 ∷ second in
    file_back (Key (Lms w))
    (literal_lined (codes "nazkoiber key lms ") (hex_text w.id ++ 32 ∷ first) refl
    (then_word (hex_text w.id) first (hex_wordy w.id)
    (then_word (hex_text w.seed) second (hex_wordy w.seed) (wordy_alone second (decimal_wordy w.next h)))))
    (lms_back w l1 s1 l2 s2 h)

pub public_file_back : (w : LmsPublicWords) → length w.id ≡ 16 → Back w.id → length w.root ≡ 32 → Back w.root
    → key_file_told (key_file_text (Public w)) ≡ Some (Public w)
public_file_back w l1 s1 l2 s2 =
    file_back (Public w)
    (literal_lined (codes "nazkoiber key lms-public ") (hex_text w.id ++ 32 ∷ hex_text w.root) refl
    (then_word (hex_text w.id) (hex_text w.root) (hex_wordy w.id) (wordy_alone (hex_text w.root) (hex_wordy w.root))))
    (public_back w l1 s1 l2 s2)
