-- A file that was packed is read back as what it was packed from.
use Rattle.std.proofs.Common.{◌≡◌, ℕ, suc, ◌+◌, ◌-◌, ◌*◌, ◌/◌, ◌%◌, ◌<◌, ◌≤◌, true, List, [], ◌∷◌, ◌++◌, length, take, drop, get_or, ltb, leb, sym, refl, ap, ap₂, ◌∙◌, arith, append_assoc, length-append}
use Rattle.std.proofs.Math.Seq.{drop-append-add}
use Rattle.std.proofs.lemmas.List.{take_at, drop_at, drop-drop, get_or-append-add}
use Rattle.std.proofs.lemmas.Bool.{and_from, le-leb, lt-ltb}
use Rattle.digests.specs.Strings.{Bytes, same}
use Rattle.sheets.specs.Table.{max_bytes}
use Rattle.sheets.specs.Calls.{total_bytes}
use Rattle.seals.specs.Images.{framed, framed_blocks}
use Rattle.seals.specs.Part.{word, part_blocks, is_seal_part}
use Rattle.seals.specs.Calls.{unframed}
use Rattle.seals.proofs.Answers.{same_from}
use Rattle.seals.proofs.Framing.{word_value}
use Rattle.files.specs.File.{magic, frames, trailer, file_of, distance, seal_place, seal_of, frames_of, has_trailer, blocks_in, is_frames, is_file, blocks_of_file, unpack_answer}
use Rattle.files.specs.RoundTrip.{AllBytes, Unpacks}
use Rattle.files.proofs.Packed.{frames_size, file_size, part_small, Made}

-- the blocks are read back from their frames
unframed_frames : (m : ℕ) (bs : List Bytes) → total_bytes bs ≤ max_bytes → unframed (λ _. true) m (length bs) (framed_blocks (λ _. true) m bs) ≡ bs
unfolding unframed framed_blocks word
unframed_frames m [] few = refl
unframed_frames m (b ∷ bs) few =
    let rest = framed_blocks (λ _. true) (suc m) bs in
    let size : length b / 256 % 256 * 256 + length b % 256 ≡ length b = word_value (length b) (omega arith) in
    ap₂ (λ (x : Bytes) (xs : List Bytes). x ∷ xs) (ap (λ k. take k (b ++ rest)) size ∙ take_at b rest (length b) refl)
    (ap (λ k. unframed (λ _. true) (suc m) (length bs) (drop (4 + k) (framed m b ++ rest))) size
    ∙ ap (unframed (λ _. true) (suc m) (length bs)) (sym (drop-drop (length b) 4 (framed m b ++ rest)) ∙ drop_at b rest (length b) refl)
    ∙ unframed_frames (suc m) bs (omega arith))

blocks_back : (bs : List Bytes) → total_bytes bs ≤ max_bytes → blocks_in (length bs) (frames bs) ≡ bs
unfolding blocks_in frames
blocks_back bs few = unframed_frames 1 bs few

-- two bytes in the second part of a string
word_behind : (a b : Bytes) (p at : ℕ) → at ≡ length a + p → word (a ++ b) at ≡ word b p
unfolding word
word_behind a b p at e =
    let next : at + 1 ≡ length a + (p + 1) = omega arith in
    ap₂ (λ (x y : ℕ). x * 256 + y) (ap (λ k. get_or (a ++ b) k 0) e ∙ get_or-append-add a b p 0)
    (ap (λ k. get_or (a ++ b) k 0) next ∙ get_or-append-add a b (p + 1) 0)

-- the two halves of a trailer's distance, and its magic
trailer_high : (size : ℕ) → size < 131072 → word (trailer size) 0 ≡ (size + 8) / 65536
unfolding word trailer
trailer_high size short = word_value ((size + 8) / 65536) (omega arith)

trailer_low : (size : ℕ) → word (trailer size) 2 ≡ (size + 8) % 65536
unfolding word trailer
trailer_low size = word_value ((size + 8) % 65536) (omega arith)

trailer_magic : (size : ℕ) → drop 4 (trailer size) ≡ magic
unfolding trailer
trailer_magic size = refl

length_trailer : (size : ℕ) → length (trailer size) ≡ 8
unfolding trailer
length_trailer size = refl

module _ (bs : List Bytes) (part : Bytes) (fits : total_bytes bs ≤ max_bytes) (bytes : AllBytes part) (room : ℕ) (m : Made bs part room) where
  short : length part < 131072
  short = part_small part bytes m.formed

  some : 0 < length (frames bs)
  some =
      let count : 0 < length bs = omega (arith, λ (none : length bs ≡ 0). m.some none) in
      omega (arith, frames_size bs)

  size : length (file_of bs part) ≡ length (frames bs) + length part + 8
  size = file_size bs part

  front : Bytes
  front = frames bs ++ part

  front_size : length front ≡ length (frames bs) + length part
  unfolding front
  front_size = length-append (frames bs) part

  in_two : file_of bs part ≡ front ++ trailer (length part)
  unfolding front file_of
  in_two = sym (append_assoc (frames bs) part (trailer (length part)))

  distance_is : distance (file_of bs part) ≡ length part + 8
  unfolding distance
  distance_is =
      let at = length (file_of bs part) in
      let high : word (file_of bs part) (at - 8) ≡ (length part + 8) / 65536
      = ap (λ k. word k (at - 8)) in_two ∙ word_behind front (trailer (length part)) 0 (at - 8) (omega (arith, size, front_size)) ∙ trailer_high (length part) short in
      let low : word (file_of bs part) (at - 6) ≡ (length part + 8) % 65536
      = ap (λ k. word k (at - 6)) in_two ∙ word_behind front (trailer (length part)) 2 (at - 6) (omega (arith, size, front_size)) ∙ trailer_low (length part) in
      omega (arith, high, low)

  magic_is : drop (length (file_of bs part) - 4) (file_of bs part) ≡ magic
  magic_is =
      let at : length (file_of bs part) - 4 ≡ length front + 4 = omega (arith, size, front_size) in
      ap (λ k. drop k (file_of bs part)) at ∙ ap (drop (length front + 4)) in_two ∙ drop-append-add front (trailer (length part)) 4 ∙ trailer_magic (length part)

  place_is : seal_place (file_of bs part) ≡ length (frames bs)
  unfolding seal_place
  place_is = omega (arith, size, distance_is)

  trailer_there : has_trailer (file_of bs part) ≡ true
  unfolding has_trailer
  trailer_there =
      let d = distance (file_of bs part) in
      and_from (leb 8 (length (file_of bs part))) _ (le-leb 8 (length (file_of bs part)) (omega (arith, size)))
      (and_from (same (drop (length (file_of bs part) - 4) (file_of bs part)) magic) _ (same_from _ magic magic_is)
      (and_from (leb 8 d) (ltb d (length (file_of bs part))) (le-leb 8 d (omega (arith, distance_is))) (lt-ltb d (length (file_of bs part)) (omega (arith, distance_is, size, some)))))

  frames_are : frames_of (file_of bs part) ≡ frames bs
  unfolding frames_of file_of
  frames_are = take_at (frames bs) (part ++ trailer (length part)) (seal_place (file_of bs part)) (sym place_is)

  seal_is : seal_of (file_of bs part) ≡ part
  unfolding seal_of file_of
  seal_is =
      let until : length (file_of bs part) - 8 - seal_place (file_of bs part) ≡ length part = omega (arith, size, place_is) in
      ap (take (length (file_of bs part) - 8 - seal_place (file_of bs part))) (drop_at (frames bs) (part ++ trailer (length part)) (seal_place (file_of bs part)) (sym place_is))
      ∙ take_at part (trailer (length part)) (length (file_of bs part) - 8 - seal_place (file_of bs part)) (sym until)

  counted : part_blocks (seal_of (file_of bs part)) ≡ length bs
  counted = ap part_blocks seal_is ∙ sym m.count

  blocks_are : blocks_of_file (file_of bs part) ≡ bs
  unfolding blocks_of_file
  blocks_are = ap₂ blocks_in counted frames_are ∙ blocks_back bs fits

  frames_exact : is_frames (length bs) (frames bs) ≡ true
  unfolding is_frames
  frames_exact =
      let back = blocks_back bs fits in
      and_from (same (frames (blocks_in (length bs) (frames bs))) (frames bs)) _ (same_from _ (frames bs) (ap frames back))
      (le-leb (total_bytes (blocks_in (length bs) (frames bs))) max_bytes (omega (arith, fits, ap total_bytes back)))

  file_there : is_file (file_of bs part) ≡ true
  unfolding is_file
  file_there =
      and_from (has_trailer (file_of bs part)) _ trailer_there
      (and_from (is_seal_part (seal_of (file_of bs part))) _ (ap is_seal_part seal_is ∙ m.formed) (ap₂ is_frames counted frames_are ∙ frames_exact))

  pub read_back : Unpacks (file_of bs part) bs part
  unfolding unpack_answer
  read_back =
      record {
        answer = rw (file_there, place_is, seal_is) refl;
        blocks = blocks_are;
        seal = seal_is;
      }
