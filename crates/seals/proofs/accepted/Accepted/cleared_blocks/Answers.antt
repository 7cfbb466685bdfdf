use Rattle.std.proofs.Common.{sym}
use Rattle.sheets.specs.Blocks.{blocks_of}
use Rattle.seals.specs.Scheme.{scheme}
use Rattle.seals.proofs.Suspected.{suspected}
use Rattle.seals.proofs.accepted.Accepted.cleared_blocks.Goals as goal

pub returns : goal.returns
returns g c =
    let seal = c.args.self.now in
    let s = scheme g.D.Digest.digest g.D.Digest.KIND (g.F.Family.shape c.args.family.now) in
    suspected s seal.part.now (blocks_of c.args.sheet.now) c.cleared_by_rows.result (sym c.if-agrees.ensures) c.cleared_by_rows.ensures
