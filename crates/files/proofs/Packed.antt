-- The length of a file, and what is known where a pack answers one.
use Rattle.std.proofs.Common.{◌≡◌, ℕ, suc, ◌+◌, ◌*◌, ◌<◌, ◌≤◌, Bool, true, not, get_or, List, [], ◌∷◌, ◌++◌, length, Ok, Err, Result, eqb, ltb, sym, refl, ap, ◌∙◌, arith, length-append}
use Rattle.std.specs.Result.{result_map_both}
use Rattle.std.proofs.lemmas.Bool.{true≢false, not-false, eqb-true, eq-eqb, ltb-false}
use Rattle.answers.specs.declared.Refusal.{Refusal}
use Rattle.answers.specs.declared.Refusal.TheVariants.{NoRoom, Malformed, SheetEmpty, OtherBlockCount}
use Rattle.digests.specs.Strings.{Bytes}
use Rattle.sheets.specs.Calls.{total_bytes}
use Rattle.seals.specs.Images.{framed, framed_blocks}
use Rattle.seals.specs.Part.{word, part_blocks, text_length, is_seal_part}
use Rattle.seals.specs.Calls.{same_count}
use Rattle.seals.proofs.Answers.{was_answered}
use Rattle.seals.proofs.Parts.{part_has_rows, part_length}
use Rattle.files.specs.File.{frames, trailer, file_of, pack_answer}

size_from : (j : ℕ) (bs : List Bytes) → length (framed_blocks (λ _. true) j bs) ≡ 4 * length bs + total_bytes bs
unfolding framed_blocks
size_from j [] = refl
size_from j (b ∷ bs) = length-append (framed j b) (framed_blocks (λ _. true) (suc j) bs) ∙ omega (arith, size_from (suc j) bs)

-- each frame has four bytes more than its block
pub frames_size : (bs : List Bytes) → length (frames bs) ≡ 4 * length bs + total_bytes bs
unfolding frames
frames_size bs = size_from 1 bs

pub file_size : (bs : List Bytes) (part : Bytes) → length (file_of bs part) ≡ length (frames bs) + length part + 8
unfolding file_of trailer
file_size bs part =
    omega (arith, length-append (frames bs) (part ++ trailer (length part)), length-append part (trailer (length part)))

-- a sheet and a seal part that are packed into a file
pub record Made (bs : List Bytes) (part : Bytes) (room : ℕ) : Type 0 where
  pub some : length bs ≡ 0 → ⊥
  pub formed : is_seal_part part ≡ true
  pub count : length bs ≡ part_blocks part
  pub enough : length (file_of bs part) ≤ room

module _ (bs : List Bytes) (part : Bytes) (room : ℕ) where
  causes : List (Bool × Refusal)
  causes =
      (eqb (length bs) 0, SheetEmpty)
      ∷ ((not (is_seal_part part), Malformed)
      ∷ ((not (same_count bs part), OtherBlockCount)
      ∷ ((ltb room (length (file_of bs part)), NoRoom) ∷ [])))

  -- what holds where a pack answers a file
  pub made : (file : Bytes) → pack_answer bs part room ≡ Ok file → (file_of bs part ≡ file) × Made bs part room
  unfolding pack_answer causes same_count
  made file h =
      let w = was_answered causes (file_of bs part) file h in
      let clear = w.0 in (
        w.1,
        record {
          some = λ none. true≢false (sym (eq-eqb (length bs) 0 none) ∙ clear.0);
          formed = not-false (is_seal_part part) clear.1.0;
          count = eqb-true (length bs) (part_blocks part) (not-false (eqb (length bs) (part_blocks part)) clear.1.1.0);
          enough = ltb-false room (length (file_of bs part)) clear.1.1.1.0;
        },
      )

  -- and where it answers a length
  pub answered : (n : ℕ) → Ok n ≡ result_map_both length (λ (e : Refusal). e) (pack_answer bs part room)
      → (pack_answer bs part room ≡ Ok (file_of bs part)) × (n ≡ length (file_of bs part)) × Made bs part room
  answered n h = go (pack_answer bs part room) refl h
    where
      go : (r : Result Bytes Refusal) → pack_answer bs part room ≡ r → Ok n ≡ result_map_both length (λ (e : Refusal). e) r
          → (pack_answer bs part room ≡ Ok (file_of bs part)) × (n ≡ length (file_of bs part)) × Made bs part room
      go (Ok file) e h =
          let m = made file e in
          let size : n ≡ length file = cc in
          (e ∙ ap (λ (f : Bytes). Ok f) (sym m.0), size ∙ ap length (sym m.0), m.1)
      go (Err e) f h = cc

-- a seal part is not longer than its counts allow
pub part_small : (part : Bytes) → ((k : ℕ) → get_or part k 0 < 256) → is_seal_part part ≡ true → length part < 131072
unfolding is_seal_part word
part_small part small formed =
    let rows = part_has_rows part formed in
    let long = part_length part formed in
    omega (arith, small (text_length part), small (text_length part + 1))
