use Rattle.families.specs.Any.{any_shape}
use Rattle.seals.specs.Scheme.{scheme}
use Rattle.sheets.specs.Blocks.{blocks_of}
use Rattle.desk.proofs.Filled.{filled, refused}
use Rattle.desk.proofs.sealing.seal_by.Goals as goal

pub returns-in-Ok-clause-answer : goal.returns-in-Ok-clause-answer
returns-in-Ok-clause-answer g c =
    filled (scheme g.D.Digest.digest g.D.Digest.KIND (any_shape c.args.family.now)) (g.S.Inspector.kind c.args.key.now) (g.S.Sealer.key c.args.key.now)
    (g.S.Sealer.signature c.args.key.now) c.args.drawn.key c.args.drawn.number (blocks_of c.args.sheet.now) c.args.out.now c.requires
    c.in-Ok.field-0 c.seal.new.out c.in-Ok.ensures.answer c.in-Ok.ensures.long c.in-Ok.ensures.buffer

pub returns-in-Err-clause-answer : goal.returns-in-Err-clause-answer
returns-in-Err-clause-answer g c =
    refused (scheme g.D.Digest.digest g.D.Digest.KIND (any_shape c.args.family.now)) (g.S.Inspector.kind c.args.key.now) (g.S.Sealer.key c.args.key.now)
    (g.S.Sealer.signature c.args.key.now) c.args.drawn.key c.args.drawn.number (blocks_of c.args.sheet.now) c.args.out.now c.requires
    c.in-Err.refusal c.in-Err.ensures.answer
