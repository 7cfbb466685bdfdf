-- What is known of a file that was unpacked into an empty sheet.
use Rattle.std.specs.Prelude.{◌≡◌, ℕ, Bool, not, true, false, List, [], ◌∷◌, length, Some, Ok, ◌==◌, refl}
use Rattle.std.proofs.Common.{ap, ◌∙◌}
use Rattle.std.proofs.lemmas.Bool.{cond-true}
use Rattle.answers.specs.Refusals.{unless}
use Rattle.answers.specs.declared.Refusal.TheVariants.{Malformed, SheetNotEmpty}
use Rattle.sheets.specs.Table.{Bytes}
use Rattle.seals.specs.Head.{head_fields, head_answer}
use Rattle.files.specs.File.{seal_place, seal_of, is_file, unpack_answer}
use Rattle.files.proofs.Unpacked.{file_seal}

-- no refusal is an answer
opens : (used good : Bool) (r p : ℕ × ℕ) → Ok p ≡ unless ((used, SheetNotEmpty) ∷ ((not good, Malformed) ∷ [])) r → good ≡ true
opens used true r p e = refl
opens true false r p e = cc
opens false false r p e = cc

pub is_opened : (bs : List Bytes) (file : Bytes) (place n : ℕ) → Ok (place, n) ≡ unpack_answer bs file → is_file file ≡ true
unfolding unpack_answer
is_opened bs file place n e = opens (not (length bs == 0)) (is_file file) (seal_place file, length (seal_of file)) (place, n) e

pub head_there : (file part : Bytes) → is_file file ≡ true → part ≡ seal_of file → head_answer part ≡ Some (head_fields (seal_of file))
head_there file part good there = ap head_answer there ∙ cond-true _ _ _ (file_seal file good)
