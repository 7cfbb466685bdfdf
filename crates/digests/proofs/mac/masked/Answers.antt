use Rattle.std.proofs.Common.{◌≡◌, ◌++◌, get_or, set, replicate, ap, ◌∙◌, arith}
use lib.Bits.{bit_xor}
use Rattle.std.proofs.lemmas.List.{take_all}
use Rattle.digests.specs.Hmac.{under}
use Rattle.digests.proofs.Pads.{front, front_more}
use Rattle.digests.proofs.mac.masked.Goals as goal

pub loop-index-preserved : goal.loop-index-preserved
loop-index-preserved c =
    let key = c.args.key.now in
    let mask = c.args.mask in
    let i = c.loop-index.index in
    ap (λ o. set o i (bit_xor (get_or key i 0) mask)) c.loop-index.invariant ∙ front_more mask key i (omega arith) c.told-key

pub returns : goal.returns
returns c =
    let key = c.args.key.now in
    let mask = c.args.mask in
    let end : c.loop-index.index ≡ 32 = omega arith in
    c.loop-index.invariant ∙ ap (front mask key) end ∙ ap (λ k. under mask k ++ replicate 32 mask) (take_all 32 key (omega arith))
