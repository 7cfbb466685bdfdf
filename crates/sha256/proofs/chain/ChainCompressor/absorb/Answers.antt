use Rattle.std.proofs.Common.{ap, ◌∙◌, arith, length-append}
use Rattle.sha256.specs.Sha256.{compressed}
use Rattle.sha256.specs.Hashed.{block_more}
use Rattle.sha256.proofs.chain.ChainCompressor.absorb.Goals as goal

pub returns : goal.returns
returns c bs h =
    let block = c.args.block.now in
    let size = c.told-block in
    let long = length-append bs block in
    record {
      whole = omega (arith, long, h.whole, size);
      state_is = c.step.ensures.value ∙ ap (λ s. compressed s block) h.state_is ∙ block_more bs block h.whole size;
      count_is = omega (arith, long, h.count_is, size, c.step.ensures.counted);
    }
