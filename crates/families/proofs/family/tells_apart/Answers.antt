use Rattle.families.proofs.Apart.{tells_apart}
use Rattle.families.proofs.family.tells_apart.Goals as goal

pub returns : goal.returns
returns g c =
    let s = g.F.Family.shape c.args.family.now in
    record { strength = c.strength.ensures; apart = tells_apart s.blocks s.rows s.strength s.holds (g.met.F.Family.lawful c.args.family.now).covers }
