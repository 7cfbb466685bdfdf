use Rattle.std.proofs.Common.{ℕ, ◌+◌, ◌-◌, ◌*◌, ◌/◌, ◌%◌, cond, eqb, ◌++◌, sym, ap, ◌∙◌, arith, rules}
use Rattle.digests.specs.Strings.{Bytes}
use Rattle.lms.specs.Strings.{u32str, bytes_at, d_intr}
use Rattle.lms.specs.Lms.{climb}
use Rattle.lms.proofs.Loops.{climb_more, climb_all}
use Rattle.lms.proofs.tree.root_candidate.Goals as goal

pub loop-i-preserved : goal.loop-i-preserved
loop-i-preserved g c =
    let hash : Bytes → Bytes = g.D.Digest.digest in
    let id : Bytes = c.args.leaf.now.id in
    let path : ℕ → Bytes = λ i. bytes_at c.args.signature.now (1132 + 32 * i) 32 in
    let i : ℕ = c.loop-i.i in
    let node : ℕ = c.loop-i.node in
    let value : Bytes = c.loop-i.value in (
      omega arith,
      search rules,
      ap (climb hash id path (5 - (i + 1)) (i + 1) (node / 2))
          (c.parent-value.ensures
          ∙ ap (λ (b : Bytes). hash (cond (eqb (node % 2) 1) (id ++ u32str (node / 2) ++ d_intr ++ b ++ value) (id ++ u32str (node / 2) ++ d_intr ++ value ++ b))) c.path_at.ensures)
          ∙ sym (climb_more hash id path i node value (omega arith))
          ∙ c.loop-i.invariant.2,
    )

pub returns : goal.returns
returns g c =
    let path : ℕ → Bytes = λ i. bytes_at c.args.signature.now (1132 + 32 * i) 32 in
    sym (climb_all g.D.Digest.digest c.args.leaf.now.id path c.loop-i.i c.loop-i.node c.loop-i.value (omega arith))
    ∙ c.loop-i.invariant.2
    ∙ ap (climb g.D.Digest.digest c.args.leaf.now.id path 5 0 (32 + c.args.leaf.now.number)) c.leaf_node-value.ensures
