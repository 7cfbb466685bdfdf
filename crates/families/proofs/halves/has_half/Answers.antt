use Rattle.std.proofs.Common.{eqb, sym, ap₂}
use Rattle.families.proofs.Ranks.{ones_counted}
use Rattle.families.proofs.halves.has_half.Goals as goal

pub returns : goal.returns
returns c = ap₂ eqb (sym (ones_counted c.args.t c.args.word c.requires)) c.half.ensures
