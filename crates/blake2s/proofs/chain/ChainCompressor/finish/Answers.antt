use Rattle.std.proofs.Common.{◌+◌, ◌%◌, ◌^◌, true, length, ap, ◌∙◌}
use Rattle.std.specs.List.{flat_map}
use Rattle.blake2s.specs.Blake2s.{chained, compressed, filled, bytes_of}
use Rattle.blake2s.specs.Chains.{counts, blake2s_last}
use Rattle.blake2s.proofs.chain.ChainCompressor.finish.Goals as goal

pub returns : goal.returns
returns c bs known some =
    let chain = c.args.self in
    let last = c.args.last.now in
    let n = known.number in
    c.close.ensures
    ∙ ap (λ h. flat_map bytes_of (compressed h (filled last) ((chain.count + length last) % 2 ^ 64) true)) known.value
    ∙ ap (λ t. flat_map bytes_of (compressed (chained bs n) (filled last) t true)) (counts bs last n known.whole chain.count known.counted)
    ∙ blake2s_last bs last n known.whole c.requires some
