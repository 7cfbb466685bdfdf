-- What is known of a string that is a file.
use Rattle.std.proofs.Common.{◌≡◌, ◌-◌, ◌≤◌, true, length, arith}
use Rattle.std.proofs.lemmas.List.{length-take-le}
use Rattle.std.proofs.lemmas.Bool.{and_parts}
use Rattle.digests.specs.Strings.{Bytes}
use Rattle.seals.specs.Part.{part_blocks, is_seal_part}
use Rattle.seals.proofs.Parts.{part_counted}
use Rattle.files.specs.File.{distance, seal_place, seal_of, frames_of, has_trailer, is_frames, is_file}

module _ (file : Bytes) where
  pub frames_long : length (frames_of file) ≡ seal_place file
  unfolding frames_of seal_place
  frames_long = length-take-le (length file - distance file) file (omega arith)

  module _ (good : is_file file ≡ true) where
    pub file_trailer : has_trailer file ≡ true
    unfolding is_file
    file_trailer = (and_parts (has_trailer file) _ good).0

    pub file_seal : is_seal_part (seal_of file) ≡ true
    unfolding is_file
    file_seal = (and_parts (is_seal_part (seal_of file)) _ (and_parts (has_trailer file) _ good).1).0

    pub file_frames : is_frames (part_blocks (seal_of file)) (frames_of file) ≡ true
    unfolding is_file
    file_frames = (and_parts (is_seal_part (seal_of file)) _ (and_parts (has_trailer file) _ good).1).1

    pub file_count : part_blocks (seal_of file) ≤ 512
    file_count = (part_counted (seal_of file) file_seal).1
