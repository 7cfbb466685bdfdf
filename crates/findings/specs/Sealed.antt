-- What a sealed file says. Assumes nothing.
use Rattle.std.specs.Prelude.{cond, List, ◌++◌, length, codes, decimal}
use Rattle.answers.specs.declared.Refusal.TheVariants.{Malformed}
use Rattle.sheets.specs.Table.{Bytes}
use Rattle.sheets.specs.Calls.{total_bytes}
use Rattle.seals.specs.Head.{head_fields}
use Rattle.seals.specs.declared.head.PartHead.{PartHead}
use Rattle.files.specs.File.{seal_of, is_file, blocks_of_file}
use Rattle.findings.specs.Head.{number_line, family_line, kind_lines}
use Rattle.findings.specs.Lines.{block_lines}
use Rattle.findings.specs.Refused.{refusal_text}

-- how many blocks there are, and their bytes together
unfoldable pub count_line : List Bytes → Bytes
count_line bs = codes "blocks " ++ (decimal (length bs) ++ (codes ", " ++ (decimal (total_bytes bs) ++ codes " bytes\n")))

-- what stands before the lines of the blocks
unfoldable pub front_text : PartHead → List Bytes → Bytes
front_text h bs = ((number_line h.number ++ family_line h) ++ kind_lines h) ++ count_line bs

-- the last line: nothing of this was compared with a digest or a signature
abbrev pub unchecked : Bytes
unchecked = codes "not checked: only a check with the key tells whether a block was changed\n"

unfoldable pub sealed_text : PartHead → List Bytes → Bytes
sealed_text h bs = (front_text h bs ++ block_lines 1 bs) ++ unchecked

-- what a file says, or why it is none
unfoldable pub file_text : Bytes → Bytes
file_text file = cond (is_file file) (sealed_text (head_fields (seal_of file)) (blocks_of_file file)) (refusal_text Malformed)
