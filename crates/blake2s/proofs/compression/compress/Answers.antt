use Rattle.std.proofs.Common.{◌≡◌, ℕ, List, [], get_or, ap, ◌∙◌}
use Rattle.blake2s.specs.Blake2s.{sigma, round, fed, compressed}
use Rattle.digests.specs.Strings.{Bytes}
use Rattle.blake2s.proofs.compression.compress.Goals as goal

-- round i after what is known of the rounds before it
then_round : (block : Bytes) (i : ℕ) (v w after : List ℕ) → after ≡ round block v (get_or sigma i []) → v ≡ w → after ≡ round block w (get_or sigma i [])
then_round block i v w after is before = is ∙ ap (λ x. round block x (get_or sigma i [])) before

pub returns : goal.returns
unfolding compressed
returns c =
    let then = then_round c.args.block.now in
    c.feed.ensures
    ∙ ap (fed c.args.h.now)
    (then 9 _ _ _ c.turn-v-10.ensures
    (then 8 _ _ _ c.turn-v-9.ensures
    (then 7 _ _ _ c.turn-v-8.ensures
    (then 6 _ _ _ c.turn-v-7.ensures
    (then 5 _ _ _ c.turn-v-6.ensures
    (then 4 _ _ _ c.turn-v-5.ensures
    (then 3 _ _ _ c.turn-v-4.ensures
    (then 2 _ _ _ c.turn-v-3.ensures
    (then 1 _ _ _ c.turn-v-2.ensures
    (then 0 _ _ _ c.turn-v.ensures c.begin-v.ensures))))))))))
