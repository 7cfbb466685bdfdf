-- The bytes that a seal writes.
use Rattle.std.specs.Prelude.{◌≡◌, ℕ, zero, suc, ◌+◌, ◌*◌, ◌/◌, ◌%◌, ◌<◌, ◌≤◌, Bool, not, ◌&&◌, List, [], ◌∷◌, ◌++◌, length, drop, Ok, ◌==◌, nat_lt}
use Rattle.std.specs.Int.{w32, to_be_bytes}
use Rattle.std.proofs.Common.{sym, ap, ◌∙◌, arith, append_assoc, length-drop, length-append}
use Rattle.std.proofs.lemmas.List.{append-nil, nil_from_length}
use Rattle.std.proofs.lemmas.Bool.{and_parts, eqb-true, ltb-true, ltb-false, not-false}
use Rattle.answers.specs.declared.Refusal.{Refusal}
use Rattle.answers.specs.declared.Refusal.TheVariants.{NoRoom, SheetEmpty, NotDrawn, OtherScheme}
use Rattle.digests.specs.Strings.{Bytes, same}
use Rattle.families.specs.Shape.{Shape}
use Rattle.keys.specs.Key.{Key}
use Rattle.seals.specs.Images.{two_bytes, row_image, whole_image}
use Rattle.seals.specs.Scheme.{Scheme}
use Rattle.seals.specs.Part.{four_bytes, digests_of_rows, seal_head, text_to_sign, seal_part}
use Rattle.seals.specs.Calls.{part_length, seal_answer}
use Rattle.seals.proofs.Answers.{ClearOf, was_answered}

pub number_bytes : (n : ℕ) → to_be_bytes w32 n ≡ four_bytes n
number_bytes n =
    let a : n / 16777216 % 256 ≡ n / 65536 / 256 % 256 = omega arith in
    let b : n / 256 % 256 ≡ n % 65536 / 256 % 256 = omega arith in
    let c : n % 256 ≡ n % 65536 % 256 = omega arith in
    ap (λ k. k ∷ (n / 65536 % 256 ∷ (n / 256 % 256 ∷ (n % 256 ∷ [])))) a
    ∙ ap (λ k. n / 65536 / 256 % 256 ∷ (n / 65536 % 256 ∷ (k ∷ (n % 256 ∷ [])))) b
    ∙ ap (λ k. n / 65536 / 256 % 256 ∷ (n / 65536 % 256 ∷ (n % 65536 / 256 % 256 ∷ (k ∷ [])))) c

-- the digest of one row more
more : (s : Scheme) (bs : List Bytes) (from count : ℕ)
    → digests_of_rows s bs from (suc count) ≡ digests_of_rows s bs from count ++ s.digest (row_image s.family.holds (from + count) bs)
unfolding digests_of_rows
more s bs from zero = append-nil (s.digest (row_image s.family.holds from bs)) ∙ ap (λ k. s.digest (row_image s.family.holds k bs)) (omega arith)
more s bs from (suc count) =
    let next : suc from + count ≡ from + suc count = omega arith in
    ap (λ t. s.digest (row_image s.family.holds from bs) ++ t) (more s bs (suc from) count)
    ∙ ap (λ k. s.digest (row_image s.family.holds from bs) ++ (digests_of_rows s bs (suc from) count ++ s.digest (row_image s.family.holds k bs))) next
    ∙ sym (append_assoc (s.digest (row_image s.family.holds from bs)) (digests_of_rows s bs (suc from) count) (s.digest (row_image s.family.holds (from + suc count) bs)))

pub digests_more : (s : Scheme) (bs : List Bytes) (from count : ℕ)
    → digests_of_rows s bs from (count + 1) ≡ digests_of_rows s bs from count ++ s.digest (row_image s.family.holds (from + count) bs)
digests_more s bs from count = ap (digests_of_rows s bs from) (omega arith) ∙ more s bs from count

-- what fills a list leaves nothing behind it
pub all_written : (xs ys : List ℕ) → length ys ≡ length xs → xs ++ drop (length xs) ys ≡ xs
all_written xs ys e = ap (λ k. xs ++ k) (nil_from_length (drop (length xs) ys) (length-drop (length xs) ys ∙ omega arith)) ∙ append-nil xs

length_digests : (s : Scheme) (bs : List Bytes) (from count : ℕ) → ((b : Bytes) → length (s.digest b) ≡ 32) → length (digests_of_rows s bs from count) ≡ 32 * count
unfolding digests_of_rows
length_digests s bs from zero thirty_two = omega arith
length_digests s bs from (suc count) thirty_two =
    length-append (s.digest (row_image s.family.holds from bs)) (digests_of_rows s bs (suc from) count)
    ∙ omega (arith, thirty_two (row_image s.family.holds from bs), length_digests s bs (suc from) count thirty_two)

-- how long a seal part is
pub part_size : (s : Scheme) (sealer_kind number : ℕ) (bs : List Bytes) (signature : Bytes) → ((b : Bytes) → length (s.digest b) ≡ 32)
    → length (seal_part s sealer_kind number bs signature) ≡ part_length s.family.rows (length signature)
unfolding seal_part text_to_sign seal_head
part_size s sealer_kind number bs signature thirty_two =
    let rows = digests_of_rows s bs 1 s.family.rows in
    let whole = s.digest (whole_image bs) in
    let texts = length-append rows whole in
    let all = length-append (text_to_sign s sealer_kind number bs) (two_bytes (length signature) ++ signature) in
    omega (arith, texts, all, length_digests s bs 1 s.family.rows thirty_two, thirty_two (whole_image bs))

-- what is known where a seal answers a length
module _ (f : Shape) (key : Key) (name : Bytes) (number : ℕ) (bs : List Bytes) (room n : ℕ) (e : Ok n ≡ seal_answer f key name number bs room) where
  causes : List (Bool × Refusal)
  causes =
      (length bs == 0, SheetEmpty)
      ∷ ((not (f.blocks == length bs), OtherScheme)
      ∷ ((not (same name key.name && nat_lt number key.next), NotDrawn)
      ∷ ((nat_lt room (part_length f.rows key.size), NoRoom) ∷ [])))

  clear : ClearOf causes × (part_length f.rows key.size ≡ n)
  unfolding seal_answer causes
  clear = was_answered causes (part_length f.rows key.size) n (sym e)

  pub counted : length bs ≡ f.blocks
  unfolding causes
  counted = sym (eqb-true f.blocks (length bs) (not-false (f.blocks == length bs) clear.0.1.0))

  pub was_drawn : number < key.next
  unfolding causes
  was_drawn =
      ltb-true number key.next (and_parts (same name key.name) (nat_lt number key.next) (not-false (same name key.name && nat_lt number key.next) clear.0.1.1.0)).1

  pub has_room : n ≤ room
  unfolding causes
  has_room = omega (arith, ltb-false room (part_length f.rows key.size) clear.0.1.1.1.0, clear.1)

  pub length_is : n ≡ part_length f.rows key.size
  length_is = sym clear.1
