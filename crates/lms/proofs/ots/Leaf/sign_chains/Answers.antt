use Rattle.std.proofs.Common.{◌≡◌, arith}
use Rattle.lms.proofs.ots.Leaf.sign_chains.Goals as goal

pub returns : goal.returns
returns g c =
    let all : c.loop-i.i ≡ 34 = omega arith in
    rw all at c.loop-i.invariant.1
