use Rattle.std.proofs.Common.{◌≡◌, ◌-◌, ◌++◌, length, drop, replicate, ap, ◌∙◌, arith}
use Rattle.std.proofs.lemmas.List.{drop-replicate}
use Rattle.blake2s.proofs.chain.fill.Goals as goal

pub returns : goal.returns
returns c =
    let last = c.args.last.now in
    let all : length last - 0 ≡ length last = omega arith in
    ap (λ l. l ++ drop (length last - 0) (replicate 64 0)) c.copy_from_slice.ensures.after
    ∙ ap (λ k. last ++ drop k (replicate 64 0)) all
    ∙ ap (λ l. last ++ l) (drop-replicate (length last) 64 0)
