use Rattle.std.proofs.Common.{◌≡◌, ℕ, ◌+◌, ◌*◌, ◌/◌, ◌^◌, ◌++◌, length, take, bit_xor, sym, ap, ◌∙◌, subst, pow-suc, arith, rules}
use native.Mathlib.Nat.{div-div-eq-div-mul}
use Rattle.digests.specs.Strings.{Bytes}
use Rattle.lms.specs.Strings.{concat_all}
use Rattle.lms.specs.Nodes.{node_at}
use Rattle.lms.proofs.Loops.{concat_none, concat_after}
use Rattle.lms.proofs.tree.sign_path.Goals as goal

pub loop-i-init : goal.loop-i-init
loop-i-init c = (omega arith, omega arith, search rules, sym (concat_none (take 1132 c.args.signature.now) (λ i. node_at c.args.nodes.now (bit_xor ((32 + c.args.leaf.now.number) / 2 ^ i) 1))))

pub loop-i-preserved : goal.loop-i-preserved
loop-i-preserved c =
    let f : ℕ → Bytes = λ i. node_at c.args.nodes.now (bit_xor ((32 + c.args.leaf.now.number) / 2 ^ i) 1) in
    let start : Bytes = take 1132 c.args.signature.now in
    let i : ℕ = c.loop-i.i in
    let sibling : Bytes = node_at c.args.nodes.now (bit_xor c.loop-i.node 1) in
    let half : c.loop-i.node / 2 ≡ (32 + c.args.leaf.now.number) / 2 ^ (i + 1) =
    ap (λ (r : ℕ). r / 2) c.loop-i.invariant.1 ∙ div-div-eq-div-mul (32 + c.args.leaf.now.number) (2 ^ i) 2
    ∙ ap (λ (j : ℕ). (32 + c.args.leaf.now.number) / j) (sym (pow-suc 2 i) ∙ ap (λ (j : ℕ). 2 ^ j) (omega arith)) in
    let long : length sibling ≡ 32 = search rules in
    let end : 1132 + 32 * i + 32 ≡ 1132 + 32 * (i + 1) = omega arith in
    let written : take (1132 + 32 * (i + 1)) c.put.new.out ≡ take (1132 + 32 * i) c.loop-i.signature ++ sibling
    = subst (λ (n : ℕ). take n c.put.new.out ≡ take (1132 + 32 * i) c.loop-i.signature ++ sibling) (ap (λ (k : ℕ). 1132 + 32 * i + k) long ∙ end) c.put.ensures in (
      omega arith,
      half,
      c.put.array_long,
      written
          ∙ ap (λ (s : Bytes). s ++ sibling) c.loop-i.invariant.3
          ∙ ap (λ (r : ℕ). (start ++ concat_all i f) ++ node_at c.args.nodes.now (bit_xor r 1)) c.loop-i.invariant.1
          ∙ concat_after start i f,
    )

pub returns : goal.returns
returns c =
    let all : c.loop-i.i ≡ 5 = omega arith in
    rw all at c.loop-i.invariant.3
