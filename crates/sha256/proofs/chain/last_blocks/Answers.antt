use Rattle.std.proofs.Common.{◌∙◌, arith}
use Rattle.sha256.proofs.Padded.{ends}
use Rattle.sha256.proofs.chain.last_blocks.Goals as goal

pub returns-then-last-lt56 : goal.returns-then-last-lt56
returns-then-last-lt56 c e = c.compress_all.ensures ∙ ends c.args.last.now c.padded.result c.args.message 64 c.args.state e (omega arith) c.padded.ensures

pub returns-else-last-lt56 : goal.returns-else-last-lt56
returns-else-last-lt56 c e = c.compress_all-else-last-lt56.ensures ∙ ends c.args.last.now c.padded-else-last-lt56.result c.args.message 128 c.args.state e (omega arith) c.padded-else-last-lt56.ensures
