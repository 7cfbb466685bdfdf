use Rattle.std.proofs.Common.{[], ◌∷◌, refl, ap, ◌∙◌, rules}
use Rattle.std.specs.List.{flat_map}
use Rattle.digests.proofs.Mapped.{mapped}
use Rattle.sha256.specs.Sha256.{u32_bytes, state_bytes}
use Rattle.sha256.proofs.chain.big_endian.Goals as goal

pub returns : goal.returns
unfolding state_bytes
returns c =
    let s = c.args.s in
    let words = s.a ∷ s.b ∷ s.c ∷ s.d ∷ s.e ∷ s.f ∷ s.g ∷ s.h ∷ [] in
    c.join_words.ensures ∙ ap (flat_map (λ w. w)) (mapped _ u32_bytes _ (λ x y q k. search rules) 0 words _ 8 refl c.map.ensures.items)
