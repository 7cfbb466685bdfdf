use Rattle.std.proofs.Common.{◌≡◌, ◌+◌, ◌-◌}
use Rattle.families.specs.Numbers.{lowest}
use Rattle.families.proofs.family.Family.next_block.Given as goal

-- what is left to look at has the answer
abbrev pub invariant-loop-below : goal.invariant-loop-below
invariant-loop-below g l =
    let f = g.Self.Family.shape l.self in
    lowest (f.holds l.row.0) (l.below + 1) (f.blocks - l.below) ≡ lowest (f.holds l.row.0) (l.initial.below + 1) (f.blocks - l.initial.below)
