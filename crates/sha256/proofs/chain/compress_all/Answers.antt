use Rattle.std.proofs.Common.{◌/◌, length, ap, ◌∙◌, rules}
use Rattle.std.specs.List.{fold}
use Rattle.std.proofs.lemmas.Iterator.{YieldsList-from_slice}
use Rattle.std.proofs.lemmas.Iterator.Consumers.{fold_from_yields_List}
use Rattle.sha256.specs.Sha256.{compressed}
use Rattle.sha256.proofs.Blocks.{folded}
use Rattle.sha256.proofs.chain.compress_all.Goals as goal

pub returns : goal.returns
returns c =
    fold_from_yields_List _ compressed c.args.state _ c.fold.ensures.ran (YieldsList-from_slice c.as_chunks.result.0.now (search rules)) (λ s block t q k. search rules)
    ∙ ap (fold compressed c.args.state) c.as_chunks.ensures.front
    ∙ folded (length c.args.bytes.now / 64) c.args.bytes.now c.args.state
