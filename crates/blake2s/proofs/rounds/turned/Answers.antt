use Rattle.std.proofs.Common.{◌≡◌, length, refl, rules}
use Rattle.blake2s.proofs.Quads.{four}
use Rattle.blake2s.proofs.rounds.turned.Goals as goal

pub returns : goal.returns
returns g c =
    let long : length c.args.x ≡ 4 = search rules in
    rw (four c.args.x long) refl
