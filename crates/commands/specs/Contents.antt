-- What the commands make of the bytes of files. Assumes nothing.
use Rattle.std.specs.Prelude.{ℕ, List, [], length, Ok, Result}
use Rattle.answers.specs.declared.Refusal.{Refusal}
use Rattle.answers.specs.Refusals.{on_ok}
use Rattle.files.specs.File.{file_of, pack_answer, seal_of, blocks_of_file, unpack_answer}
use Rattle.findings.specs.Checked.{check_text}
use Rattle.findings.specs.Sealed.{file_text}
use Rattle.reports.specs.Reports.{text_report}
use Rattle.seals.specs.Calls.{check_answer}
use Rattle.seals.specs.Part.{seal_number}
use Rattle.seals.specs.Scheme.{Scheme}
use Rattle.sheets.specs.Calls.{cut_answer, rewrite_answer, with_block}
use Rattle.sheets.specs.Table.{Bytes}

-- the seal part of a file that is unpacked into a sheet of these blocks
abbrev pub part_told : List Bytes → Bytes → Result Bytes Refusal
part_told bs file = on_ok (unpack_answer bs file) (λ _. Ok (seal_of file))

-- the file of these blocks and this seal part, with all the room that it needs
abbrev pub packed : List Bytes → Bytes → Result Bytes Refusal
packed bs part = pack_answer bs part (length (file_of bs part))

-- a file with other bytes for one block
abbrev pub rewritten_told : Bytes → ℕ → Bytes → Result Bytes Refusal
rewritten_told file block bytes =
    on_ok (part_told [] file) (λ part.
    on_ok (rewrite_answer (blocks_of_file file) block bytes) (λ _.
    packed (with_block (blocks_of_file file) block bytes) part))

-- the text of a check that has room to name so many blocks
abbrev pub findings_told : Scheme → Bytes → List Bytes → ℕ → Result Bytes Refusal
findings_told s part bs room = on_ok (check_answer s part bs room) (λ named. Ok (check_text bs (seal_number part) named))

-- what a sealed file says
abbrev pub sealed_told : Bytes → Result Bytes Refusal
sealed_told file = on_ok (unpack_answer [] file) (λ _. Ok (file_text file))

-- the blocks that a text is cut into
abbrev pub lines_told : Bytes → Result Bytes Refusal
lines_told text = on_ok (cut_answer [] text) (λ _. Ok (text_report text))
