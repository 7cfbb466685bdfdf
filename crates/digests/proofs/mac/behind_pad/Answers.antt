use Rattle.std.proofs.Common.{◌≡◌, ◌++◌, [], take, replicate, ap, ◌∙◌}
use Rattle.digests.specs.Hmac.{under, padded}
use Rattle.digests.proofs.Pads.{pad_part}
use Rattle.digests.proofs.mac.behind_pad.Goals as goal

pub returns : goal.returns
returns g c =
    let mask = c.args.mask in
    let key = c.args.key.now in
    let block = g.D.Digest.BLOCK in
    let range = g.met.D.Digest.block_range in
    let pad : take c.BLOCK.result c.masked.result ≡ padded mask block key
    = ap (take c.BLOCK.result) c.masked.ensures ∙ ap (λ b. take b (under mask key ++ replicate 32 mask)) c.BLOCK.ensures ∙ pad_part mask block key c.told-key range.0 range.1 in
    c.end.ensures _ (c.take-2.ensures _ (c.take.ensures [] c.start-digest.ensures))
    ∙ ap (λ p. g.D.Digest.digest (p ++ c.args.text.now)) pad
