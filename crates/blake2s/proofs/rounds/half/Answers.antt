use Rattle.std.proofs.Common.{◌≡◌, length, refl, rules}
use Rattle.blake2s.proofs.Quads.{four}
use Rattle.blake2s.proofs.rounds.half.Goals as goal

pub returns : goal.returns
returns g c =
    let v = c.args.v in
    let la : length v.a ≡ 4 = search rules in
    let lb : length v.b ≡ 4 = search rules in
    let lc : length v.c ≡ 4 = search rules in
    let ld : length v.d ≡ 4 = search rules in
    let lx : length c.args.x ≡ 4 = search rules in
    rw (c.turned-b.ensures, c.turned-d.ensures, four v.a la, four v.b lb, four v.c lc, four v.d ld, four c.args.x lx) refl
