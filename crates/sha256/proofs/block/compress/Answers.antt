use Rattle.std.proofs.Common.{ℕ, List, ◌++◌, ap, ◌∙◌}
use Rattle.sha256.specs.declared.schedule.Words.{Words}
use Rattle.sha256.specs.Sha256.{K1, K2, K3, added, rounds}
use Rattle.sha256.proofs.Blocks.{compressed_is}
use Rattle.sha256.proofs.block.compress.Goals as goal

lanes : Words → List ℕ
lanes w = w.0 ++ (w.1 ++ (w.2 ++ w.3))

pub returns : goal.returns
unfolding lanes
returns c =
    let s = c.args.s in
    let w0 = lanes c.load-w.result in
    let w1 = lanes c.next_sixteen-w.result in
    let w2 = lanes c.next_sixteen-w-2.result in
    let w3 = lanes c.next_sixteen-w-3.result in
    c.sum.ensures
    ∙ ap (λ t. added t s)
    (c.sixteen_rounds-t-4.ensures ∙ ap (rounds K3 w3) (c.sixteen_rounds-t-3.ensures ∙ ap (rounds K2 w2) (c.sixteen_rounds-t-2.ensures ∙ ap (rounds K1 w1) c.sixteen_rounds-t.ensures)))
    ∙ compressed_is s c.args.block.now w0 w1 w2 w3 c.load-w.ensures c.next_sixteen-w.ensures c.next_sixteen-w-2.ensures c.next_sixteen-w-3.ensures
