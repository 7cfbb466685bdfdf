use Rattle.std.proofs.Common.{◌≡◌}
use Rattle.sheets.specs.Blocks.{blocks_of}
use Rattle.findings.specs.Checked.{present_text, suspect_line}
use Rattle.findings.proofs.check.push_suspect.Goals as goal

pub returns : goal.returns
unfolding suspect_line
returns c =
    let told : c.present_text-present.result.now ≡ present_text (blocks_of c.args.sheet.now) c.args.number = c.present_text-present.ensures in
    rw (← told) c.writeln.ensures.bytes
