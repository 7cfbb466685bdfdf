use Rattle.std.proofs.Common.{◌≡◌, length, refl, rules}
use Rattle.blake2s.proofs.Quads.{four}
use Rattle.blake2s.proofs.compression.feed.Goals as goal

pub returns : goal.returns
returns c =
    let v = c.args.v in
    let la : length v.a ≡ 4 = search rules in
    let lb : length v.b ≡ 4 = search rules in
    let lc : length v.c ≡ 4 = search rules in
    let ld : length v.d ≡ 4 = search rules in
    rw (four v.a la, four v.b lb, four v.c lc, four v.d ld) refl
