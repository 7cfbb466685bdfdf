use Rattle.std.proofs.Common.{◌≡◌, ◌+◌, ◌*◌, ◌/◌, ◌^◌, ◌<◌, ◌++◌, length, take, bit_xor}
use Rattle.lms.specs.Strings.{concat_all}
use Rattle.lms.specs.Nodes.{node_at}
use Rattle.lms.proofs.tree.sign_path.Given as goal

-- the path so far stands behind what stood before it
abbrev pub invariant-loop-i : goal.invariant-loop-i
invariant-loop-i l =
    (l.node < 64)
    × (l.node ≡ (32 + l.leaf.number) / 2 ^ l.i)
    × (length l.signature ≡ 1292)
    × (take (1132 + 32 * l.i) l.signature ≡ take 1132 l.initial.signature ++ concat_all l.i (λ i. node_at l.nodes (bit_xor ((32 + l.leaf.number) / 2 ^ i) 1)))
