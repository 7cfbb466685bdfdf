use Rattle.std.proofs.Common.{◌≡◌, ℕ, ◌+◌, ◌++◌, length, take, ap, ◌∙◌, subst, append_assoc, rules}
use Rattle.digests.specs.Strings.{Bytes}
use Rattle.lms.specs.Strings.{u32str, concat_all}
use Rattle.lms.specs.Lmots.{lmots_sign}
use Rattle.lms.specs.Lms.{chain_start}
use Rattle.lms.proofs.Loops.{signed_chain, lmots_sign_at}
use Rattle.lms.proofs.ots.Leaf.sign.Goals as goal

grouped : (a b c d : Bytes) → ((a ++ b) ++ c) ++ d ≡ a ++ ((b ++ c) ++ d)
grouped a b c d = simp append_assoc

pub returns : goal.returns
unfolding u32str
returns g c =
    let hash : Bytes → Bytes = g.D.Digest.digest in
    let id : Bytes = c.args.self.now.id in
    let leaf : ℕ = c.args.self.now.number in
    let seed : Bytes = c.args.seed.now in
    let message : Bytes = c.args.message.now in
    let front : Bytes = take 4 c.args.signature.now in
    let randomizer : Bytes = c.randomizer-randomizer.result in
    let chains : Bytes = concat_all 34 (signed_chain hash id seed leaf c.coefficients-coefficients.result) in
    let long : length randomizer ≡ 32 = search rules in
    let typed : take 8 c.put.new.out ≡ front ++ u32str 4
    = subst (λ (b : Bytes). take (4 + length b) c.put.new.out ≡ front ++ b) c.to_be_bytes.ensures c.put.ensures in
    let chosen : take 40 c.put-2.new.out ≡ take 8 c.put.new.out ++ randomizer
    = subst (λ (n : ℕ). take (8 + n) c.put-2.new.out ≡ take 8 c.put.new.out ++ randomizer) long c.put-2.ensures in
    c.sign_chains.ensures
    ∙ ap (λ (t : Bytes). t ++ chains) (chosen ∙ ap (λ (t : Bytes). t ++ randomizer) typed)
    ∙ grouped front (u32str 4) randomizer chains
    ∙ ap (λ (t : Bytes). front ++ t)
    (lmots_sign_at hash id seed leaf randomizer message c.coefficients-coefficients.result c.coefficients-coefficients.ensures
    ∙ ap (λ (r : Bytes). lmots_sign hash id leaf (chain_start hash id seed leaf) r message) c.randomizer-randomizer.ensures)
