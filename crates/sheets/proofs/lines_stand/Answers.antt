use Rattle.sheets.proofs.Lines.{lines_law}
use Rattle.sheets.proofs.lines_stand.Goals as goal

pub returns : goal.returns
returns c = lines_law
