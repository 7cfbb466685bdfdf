use Rattle.std.proofs.Common.{◌≡◌, length, refl, rules}
use Rattle.sha256.proofs.Summed.{four}
use Rattle.sha256.proofs.schedule.small.Goals as goal

pub returns : goal.returns
returns g c =
    let long : length c.args.x ≡ 4 = search rules in
    rw (c.rotated.ensures, c.rotated-2.ensures, four c.args.x long) refl
