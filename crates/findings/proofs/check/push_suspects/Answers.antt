use Rattle.std.proofs.Common.{arith}
use Rattle.sheets.specs.Blocks.{blocks_of}
use Rattle.findings.proofs.Suspects.{suspects_more, suspects_all}
use Rattle.findings.proofs.check.push_suspects.Goals as goal

pub loop-suspect-preserved : goal.loop-suspect-preserved
loop-suspect-preserved c =
    suspects_more (blocks_of c.args.sheet.now) c.args.suspects.now c.loop-suspect.suspect-index _ _ _ c.loop-suspect-test.true c.in_ok-push_suspect.ensures c.loop-suspect.invariant

pub returns : goal.returns
returns c = suspects_all (blocks_of c.args.sheet.now) c.args.suspects.now c.loop-suspect.suspect-index _ _ (omega arith) c.loop-suspect.invariant
