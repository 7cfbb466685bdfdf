-- What was read from a file is packed into the same file.
use Rattle.std.proofs.Common.{◌≡◌, ℕ, zero, suc, ◌+◌, ◌-◌, ◌*◌, ◌/◌, ◌%◌, ◌<◌, ◌≤◌, true, ◌⊎◌, ◌≢◌, [], ◌∷◌, ◌++◌, length, take, drop, get_or, ltb, leb, sym, refl, ap, ap₂, ◌∙◌, inl, inr, arith, length-drop}
use Rattle.std.proofs.lemmas.List.{drop-drop, take-append-drop, length-take-le, get_or-take, get_or-drop, get_or_past, length-take}
use Rattle.std.proofs.lemmas.Bool.{and_parts, leb-true, ltb-true, le-ltb, eq-eqb, ne_eqb, cases_lt}
use Rattle.digests.specs.Strings.{Bytes, same}
use Rattle.sheets.specs.Table.{max_bytes}
use Rattle.sheets.specs.Calls.{total_bytes}
use Rattle.seals.specs.Images.{two_bytes}
use Rattle.seals.specs.Part.{four_bytes, word, part_blocks}
use Rattle.seals.specs.Calls.{same_count, unframed}
use Rattle.seals.proofs.Answers.{same_true}
use Rattle.seals.proofs.Parts.{part_counted}
use Rattle.files.specs.File.{magic, frames, trailer, file_of, pack_answer, distance, seal_place, seal_of, frames_of, has_trailer, blocks_in, is_frames, is_file, blocks_of_file}
use Rattle.files.specs.RoundTrip.{AllBytes, Packs, PackedFrom}
use Rattle.files.proofs.Unpacked.{file_trailer, file_seal, file_frames}

length_unframed : (m count : ℕ) (e : Bytes) → length (unframed (λ _. true) m count e) ≡ count
unfolding unframed
length_unframed m zero e = refl
length_unframed m (suc count) e = ap suc (length_unframed (suc m) count (drop (4 + word e 2) e))

length_blocks : (n : ℕ) (e : Bytes) → length (blocks_in n e) ≡ n
unfolding blocks_in
length_blocks n e = length_unframed 1 n e

-- parts of a string of bytes
bytes_take : (n : ℕ) (b : Bytes) → AllBytes b → AllBytes (take n b)
bytes_take n b small k = go (cases_lt k n)
  where
    go : (k < n) ⊎ (n ≤ k) → get_or (take n b) k 0 < 256
    go (inl before) = omega (arith, get_or-take n b k 0 before, small k)
    go (inr past) = omega (arith, get_or_past (take n b) k 0 (omega (arith, length-take n b)))

bytes_drop : (n : ℕ) (b : Bytes) → AllBytes b → AllBytes (drop n b)
bytes_drop n b small k = omega (arith, get_or-drop n b k 0, small (n + k))

-- two bytes of what is left of a string
word_drop : (b : Bytes) (n p at : ℕ) → at ≡ n + p → word (drop n b) p ≡ word b at
unfolding word
word_drop b n p at e =
    let next : n + (p + 1) ≡ at + 1 = omega arith in
    ap₂ (λ (x y : ℕ). x * 256 + y) (get_or-drop n b p 0 ∙ ap (λ k. get_or b k 0) (sym e)) (get_or-drop n b (p + 1) 0 ∙ ap (λ k. get_or b k 0) next)

-- four bytes are written again as they were read
high_again : (a b c d : ℕ) → a < 256 → b < 256 → c < 256 → d < 256 → ((a * 256 + b) * 65536 + (c * 256 + d)) / 65536 ≡ a * 256 + b
high_again a b c d ha hb hc hd = omega arith

low_again : (a b c d : ℕ) → a < 256 → b < 256 → c < 256 → d < 256 → ((a * 256 + b) * 65536 + (c * 256 + d)) % 65536 ≡ c * 256 + d
low_again a b c d ha hb hc hd = omega arith

two_again : (a b x : ℕ) → a < 256 → b < 256 → x ≡ a * 256 + b → two_bytes x ≡ a ∷ (b ∷ [])
two_again a b x ha hb e =
    let upper : x / 256 % 256 ≡ a = omega arith in
    let lower : x % 256 ≡ b = omega arith in
    rw (upper, lower)

-- a string of eight bytes that ends with the magic is a trailer
trailer_again : (t : Bytes) → AllBytes t → length t ≡ 8 → drop 4 t ≡ magic → four_bytes (word t 0 * 65536 + word t 2) ++ magic ≡ t
unfolding word
trailer_again [] small long ends = absurd (omega arith)
trailer_again (a ∷ []) small long ends = absurd (omega arith)
trailer_again (a ∷ (b ∷ [])) small long ends = absurd (omega arith)
trailer_again (a ∷ (b ∷ (c ∷ []))) small long ends = absurd (omega arith)
trailer_again (a ∷ (b ∷ (c ∷ (d ∷ r)))) small long ends =
    let high = two_again a b _ (small 0) (small 1) (high_again a b c d (small 0) (small 1) (small 2) (small 3)) in
    let low = two_again c d _ (small 2) (small 3) (low_again a b c d (small 0) (small 1) (small 2) (small 3)) in
    ap₂ (λ (x y : Bytes). (x ++ y) ++ magic) high low ∙ ap (λ k. a ∷ (b ∷ (c ∷ (d ∷ k)))) (sym ends)

module _ (file : Bytes) (bytes : AllBytes file) (good : is_file file ≡ true) where
  -- what its trailer says
  long : 8 ≤ length file
  unfolding has_trailer
  long = leb-true 8 (length file) (and_parts (leb 8 (length file)) _ (file_trailer file good)).0

  ends : drop (length file - 4) file ≡ magic
  unfolding has_trailer
  ends =
      let rest = (and_parts (leb 8 (length file)) _ (file_trailer file good)).1 in
      same_true _ magic (and_parts (same (drop (length file - 4) file) magic) _ rest).0

  reach : (8 ≤ distance file) × (distance file < length file)
  unfolding has_trailer
  reach =
      let rest = (and_parts (leb 8 (length file)) _ (file_trailer file good)).1 in
      let both = and_parts (leb 8 (distance file)) (ltb (distance file) (length file)) (and_parts (same (drop (length file - 4) file) magic) _ rest).1 in
      (leb-true 8 (distance file) both.0, ltb-true (distance file) (length file) both.1)

  end : Bytes
  end = drop (length file - 8) file

  end_is : end ≡ four_bytes (distance file) ++ magic
  unfolding end distance word
  end_is =
      let size : length (drop (length file - 8) file) ≡ 8 = omega (arith, length-drop (length file - 8) file, long) in
      let four : length file - 8 + 4 ≡ length file - 4 = omega (arith, long) in
      let tail : drop 4 (drop (length file - 8) file) ≡ magic = drop-drop 4 (length file - 8) file ∙ ap (λ k. drop k file) four ∙ ends in
      sym (trailer_again (drop (length file - 8) file) (bytes_drop (length file - 8) file bytes) size tail)
      ∙ ap₂ (λ (h l : ℕ). four_bytes (h * 65536 + l) ++ magic) (word_drop file (length file - 8) 0 (length file - 8) (omega arith))
      (word_drop file (length file - 8) 2 (length file - 6) (omega (arith, long)))

  seal_size : length (seal_of file) + 8 ≡ distance file
  unfolding seal_of seal_place
  seal_size =
      let place = length file - distance file in
      let left = length-drop place file in
      let within : length file - 8 - place ≤ length (drop place file) = omega (arith, reach) in
      omega (arith, reach, length-take-le (length file - 8 - place) (drop place file) within)

  parts : frames_of file ++ (seal_of file ++ end) ≡ file
  unfolding frames_of seal_of seal_place end
  parts =
      let place = length file - distance file in
      let size = length file - 8 - place in
      let on : place + size ≡ length file - 8 = omega (arith, reach) in
      ap (λ k. take place file ++ (take size (drop place file) ++ k)) (ap (λ k. drop k file) (sym on) ∙ sym (drop-drop size place file))
      ∙ ap (λ k. take place file ++ k) (take-append-drop size (drop place file)) ∙ take-append-drop place file

  blocks_fit : total_bytes (blocks_of_file file) ≤ max_bytes
  unfolding is_frames blocks_of_file
  blocks_fit = leb-true _ max_bytes (and_parts (same (frames (blocks_of_file file)) (frames_of file)) _ (file_frames file good)).1

  frames_again : frames (blocks_of_file file) ≡ frames_of file
  unfolding is_frames blocks_of_file
  frames_again = same_true _ (frames_of file) (and_parts (same (frames (blocks_of_file file)) (frames_of file)) _ (file_frames file good)).0

  again : file_of (blocks_of_file file) (seal_of file) ≡ file
  unfolding file_of trailer
  again =
      ap₂ (λ (x : Bytes) (d : ℕ). x ++ (seal_of file ++ (four_bytes d ++ magic))) frames_again seal_size
      ∙ ap (λ k. frames_of file ++ (seal_of file ++ k)) (sym end_is) ∙ parts

  count : length (blocks_of_file file) ≡ part_blocks (seal_of file)
  unfolding blocks_of_file
  count = length_blocks (part_blocks (seal_of file)) (frames_of file)

  pub packs_again : Packs (blocks_of_file file) (seal_of file) file
  unfolding pack_answer same_count
  packs_again room enough =
      let some : length (blocks_of_file file) ≢ 0 = omega (arith, count, part_counted (seal_of file) (file_seal file good)) in
      rw (again, file_seal file good, eq-eqb (length (blocks_of_file file)) (part_blocks (seal_of file)) count, ne_eqb (length (blocks_of_file file)) 0 some, le-ltb room (length file) enough)
      refl

  pub packed_from : PackedFrom file (blocks_of_file file) (seal_of file)
  unfolding seal_of
  packed_from =
      record {
        fits = blocks_fit;
        bytes = bytes_take _ (drop (seal_place file) file) (bytes_drop (seal_place file) file bytes);
        packs = packs_again;
      }
