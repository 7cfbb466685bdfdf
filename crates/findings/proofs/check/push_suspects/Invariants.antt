use Rattle.std.proofs.Common.{◌≡◌, ◌++◌, drop, string_bytes}
use Rattle.sheets.specs.Blocks.{blocks_of}
use Rattle.findings.specs.Checked.{suspect_lines}
use Rattle.findings.proofs.check.push_suspects.Given as goal

-- with the lines that are left it has them all
abbrev pub invariant-loop-suspect : goal.invariant-loop-suspect
invariant-loop-suspect l =
    string_bytes l.text ++ suspect_lines (blocks_of l.sheet) (drop l.suspect-index l.suspects)
    ≡ string_bytes l.fn.text ++ suspect_lines (blocks_of l.sheet) l.suspects
