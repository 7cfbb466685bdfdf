use Rattle.std.proofs.Common.{◌^◌, ◌≤◌, le_trans, arith}
use native.Mathlib.Nat.{pow-le-pow_left, pow-le-pow_right}
use Rattle.families.proofs.polynomial.power.Goals as goal

pub pow-requires : goal.pow-requires
pow-requires c =
    let q = c.args.q in
    let k = c.args.k in
    let most : q ^ k ≤ 16 ^ 4 = le_trans (pow-le-pow_left c.requires.0 k) (pow-le-pow_right (omega arith) c.requires.1) in
    rw (c.from.ensures, c.from-2.ensures) (omega arith)
