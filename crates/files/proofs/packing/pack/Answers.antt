use Rattle.std.proofs.Common.{length, arith}
use Rattle.files.proofs.RoundTrip.{written_unpacks}
use Rattle.files.proofs.packing.pack.Goals as goal

pub returns-clause-unpacks : goal.returns-clause-unpacks
returns-clause-unpacks c =
    let made = c.in_ok-length.ensures in
    written_unpacks c.args.sheet.now c.args.part.now (length c.args.out.now) _ _ _ (λ k. omega (arith, c.type_inv.part k)) made.0 c.put_file.ensures made.1
