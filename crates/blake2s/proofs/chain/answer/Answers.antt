use Rattle.std.proofs.Common.{◌≡◌, length, map, ap, ◌∙◌, rules}
use Rattle.std.specs.List.{flat_map}
use Rattle.std.proofs.lemmas.List.Folds.{flat_map-map}
use Rattle.digests.proofs.Mapped.{mapped}
use Rattle.blake2s.specs.Blake2s.{bytes_of}
use Rattle.blake2s.proofs.chain.answer.Goals as goal

pub returns : goal.returns
returns c =
    let h = c.args.h in
    let long : length h ≡ 8 = search rules in
    let words : c.map.result ≡ map bytes_of h = mapped _ bytes_of _ (λ x y q k. search rules) 0 _ _ 8 long c.map.ensures.items in
    c.join_words.ensures ∙ ap (flat_map (λ w. w)) words ∙ flat_map-map (λ w. w) bytes_of h
