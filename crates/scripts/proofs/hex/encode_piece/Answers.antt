use Rattle.std.proofs.Common.{refl, rules, arith}
use Rattle.scripts.proofs.HexLemmas.{text_begun, digits_next}
use Rattle.scripts.proofs.hex.encode_piece.Goals as goal

pub loop-i-init : goal.loop-i-init
loop-i-init c = (refl, text_begun c.args.piece.now)

pub loop-i-preserved : goal.loop-i-preserved
loop-i-preserved c =
    let next = digits_next c.loop-i.digits c.args.piece.now c.loop-i.i c.encode_pair.result (omega arith) (omega arith) c.encode_pair.ensures c.loop-i.invariant.1 in
    (search rules, next)
