use Rattle.std.proofs.Common.{◌≡◌, ◌+◌, ◌-◌, ◌*◌, ◌<◌, length}
use Rattle.lms.specs.Strings.{bytes_at}
use Rattle.lms.specs.Lms.{climb}
use Rattle.lms.proofs.tree.root_candidate.Given as goal

-- what is left of the climb leads to the same root
abbrev pub invariant-loop-i : goal.invariant-loop-i
invariant-loop-i g l =
    (l.node < 64)
    × (length l.value ≡ 32)
    × (climb g.D.Digest.digest l.leaf.id (λ i. bytes_at l.signature (1132 + 32 * i) 32) (5 - l.i) l.i l.node l.value
    ≡ climb g.D.Digest.digest l.leaf.id (λ i. bytes_at l.signature (1132 + 32 * i) 32) 5 0 l.initial.node l.initial.value)
