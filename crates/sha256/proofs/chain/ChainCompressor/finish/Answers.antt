use Rattle.std.proofs.Common.{◌≡◌, ◌+◌, ◌/◌, ◌%◌, ◌^◌, ◌++◌, length, refl, ap, ◌∙◌, arith}
use Rattle.sha256.specs.Sha256.{padding, hashed, state_bytes}
use Rattle.sha256.specs.Hashed.{finished}
use Rattle.sha256.proofs.chain.ChainCompressor.finish.Goals as goal

pub returns : goal.returns
returns c bs h some =
    let last = c.args.last.now in
    let message = (c.args.self.count + length last) % 2 ^ 64 in
    let end = last ++ padding message in
    let same : message % 64 ≡ length last % 64 = omega (arith, h.count_is, h.whole) in
    c.big_endian.ensures ∙ ap state_bytes (c.last_blocks.ensures same ∙ ap (hashed (length end / 64) end) h.state_is)
    ∙ finished bs last c.args.self.count message h.whole h.count_is refl
