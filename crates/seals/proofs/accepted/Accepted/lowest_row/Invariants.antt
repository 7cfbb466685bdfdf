use Rattle.std.proofs.Common.{◌≡◌}
use Rattle.seals.specs.Scheme.{scheme}
use Rattle.seals.specs.View.{viewed}
use Rattle.seals.proofs.LowestRows.{lowest_from}
use Rattle.seals.proofs.accepted.Accepted.lowest_row.Given as goal

-- no row before this one clears the block
abbrev pub invariant-loop-row : goal.invariant-loop-row
invariant-loop-row g l =
    let s = scheme g.D.Digest.digest g.D.Digest.KIND (g.F.Family.shape l.family) in
    lowest_from s l.self.part.now (viewed l.blocks) l.block.0 l.row ≡ lowest_from s l.self.part.now (viewed l.blocks) l.block.0 1
