use Rattle.std.proofs.Common.{◌≡◌, ◌+◌, ◌-◌, ◌++◌, length, take, sym, ap, ◌∙◌, subst, zero-add, arith}
use Rattle.std.specs.List.{flat_map}
use Rattle.std.proofs.lemmas.List.{take-append-drop, take_all}
use Rattle.digests.specs.Strings.{Bytes}
use Rattle.digests.specs.Took.{Took}
use Rattle.digests.proofs.Held.{turned_over}
use Rattle.digests.proofs.buffered.Buffered.take.Goals as goal

pub returns : goal.returns
returns g c bs t =
    let s = c.args.self.now in
    let absorbed = g.C.Compressor.absorbed in
    let first = c.split_at.result.0.now in
    let blocks = c.split_blocks.result.0.now in
    let last = c.split_blocks.result.1.now in
    let full : c.hold-2.new.held ≡ take s.count s.held ++ first
    = sym (take_all (s.count + length first) c.hold-2.new.held (omega arith)) ∙ c.hold-2.ensures.behind in
    let more : (xs : Bytes) → absorbed c.absorb.new.self xs → absorbed c.loop-block.self.inner (xs ++ flat_map (λ b. b) blocks)
    = λ xs h. subst (λ all. absorbed c.loop-block.self.inner (xs ++ flat_map (λ b. b) all)) (take_all c.loop-block.block-index blocks (omega arith)) (c.loop-block.invariant xs h) in
    let cut : first ++ c.split_at.result.1.now ≡ c.args.piece.now
    = ap (λ x. x ++ c.split_at.result.1.now) c.split_at.ensures.front ∙ ap (λ x. take (64 - s.count) c.args.piece.now ++ x) c.split_at.ensures.back ∙ take-append-drop (64 - s.count) c.args.piece.now in
    let held : take (length last) c.hold-3.new.held ≡ last
    = ap (λ k. take k c.hold-3.new.held) (sym (zero-add (length last))) ∙ c.hold-3.ensures.behind in
    subst (λ h. Took absorbed c.loop-block.self.inner h (bs ++ c.args.piece.now)) (sym held)
    (turned_over absorbed s.inner c.absorb.new.self c.loop-block.self.inner (take s.count s.held) c.hold-2.new.held first c.split_at.result.1.now (flat_map (λ b. b) blocks) last c.args.piece.now bs
    c.absorb.ensures full more c.split_blocks.ensures.joined cut c.split_blocks.ensures.some t)
