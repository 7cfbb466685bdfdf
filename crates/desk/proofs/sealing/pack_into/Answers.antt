use Rattle.sheets.specs.Blocks.{blocks_of}
use Rattle.desk.proofs.Filled.{packed}
use Rattle.desk.proofs.sealing.pack_into.Goals as goal

pub returns : goal.returns
returns c = packed (blocks_of c.args.sheet.now) c.args.part.now c.args.out.now c.pack.new.out c.requires c.in_ok-pack.field-0 c.in_ok-pack.ensures.answer c.in_ok-pack.ensures.buffer
