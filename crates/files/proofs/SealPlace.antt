-- Where a file's seal part stands.
use Rattle.std.specs.Prelude.{◌≡◌, ℕ, zero, suc, refl, ◌+◌, ◌-◌, ◌≤◌, List, not, [], ◌∷◌, length, take, drop, Ok, ◌==◌}
use Rattle.std.proofs.Common.{sym, ap, ◌∙◌, arith, length-drop}
use Rattle.std.proofs.lemmas.List.{length-take}
use Rattle.answers.specs.declared.Refusal.TheVariants.{Malformed, SheetNotEmpty}
use Rattle.digests.specs.Strings.{Bytes}
use Rattle.seals.proofs.Answers.{was_answered}
use Rattle.files.specs.File.{distance, seal_place, seal_of, is_file, unpack_answer}

-- as many bytes as were taken
take_again : (m : ℕ) (xs : Bytes) → take (length (take m xs)) xs ≡ take m xs
take_again zero xs = refl
take_again (suc m) [] = refl
take_again (suc m) (x ∷ xs) = ap (λ ys. x ∷ ys) (take_again m xs)

module _ (bs : List Bytes) (file : Bytes) (place n : ℕ) (e : Ok (place, n) ≡ unpack_answer bs file) where
  both : ◌≡◌ {A = ℕ × ℕ} (seal_place file, length (seal_of file)) (place, n)
  unfolding unpack_answer
  both = (was_answered ((not (length bs == 0), SheetNotEmpty) ∷ ((not (is_file file), Malformed) ∷ [])) (seal_place file, length (seal_of file)) (place, n) (sym e)).1

  place_is : seal_place file ≡ place
  place_is = ap (λ r. r.0) both

  size_is : length (seal_of file) ≡ n
  size_is = ap (λ r. r.1) both

  pub part_fits : place + n ≤ length file
  unfolding seal_of seal_place
  part_fits =
      let m = length file - 8 - (length file - distance file) in
      let whole = length-take m (drop (length file - distance file) file) in
      let left = length-drop (length file - distance file) file in
      omega (arith, whole, left, place_is, size_is)

  pub part_there : take (place + n - place) (drop place file) ≡ seal_of file
  unfolding seal_of
  part_there =
      let many : place + n - place ≡ length (seal_of file) = omega (arith, size_is) in
      ap (λ k. take k (drop place file)) many
      ∙ ap (λ p. take (length (seal_of file)) (drop p file)) (sym place_is)
      ∙ take_again (length file - 8 - seal_place file) (drop (seal_place file) file)
