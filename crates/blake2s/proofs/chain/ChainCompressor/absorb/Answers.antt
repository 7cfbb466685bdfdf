use Rattle.std.proofs.Common.{suc, ◌+◌, ◌%◌, ◌^◌, false, sym, ap, ◌∙◌, arith, length-append}
use Rattle.blake2s.specs.Blake2s.{chained, compressed}
use Rattle.blake2s.specs.Chains.{counts, chained_more}
use Rattle.blake2s.proofs.chain.ChainCompressor.absorb.Goals as goal

pub returns : goal.returns
returns c bs known =
    let chain = c.args.self.now in
    let block = c.args.block.now in
    let long = c.told-block in
    let n = known.number in
    let count =
    c.step.ensures.counted
    ∙ ap (λ k. (chain.count + k) % 2 ^ 64) (sym long)
    ∙ counts bs block n known.whole chain.count known.counted in
    record {
      number = suc n;
      whole = simp length-append (omega arith);
      value =
          c.step.ensures.value
          ∙ ap (λ h. compressed h block c.step.new.self.count false) known.value
          ∙ ap (λ t. compressed (chained bs n) block t false) count
          ∙ chained_more bs block n known.whole long;
      counted = count;
    }
