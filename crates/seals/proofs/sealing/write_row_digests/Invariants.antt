use Rattle.std.proofs.Common.{◌≡◌, ◌*◌, length, take}
use Rattle.sheets.specs.Blocks.{blocks_of}
use Rattle.seals.specs.Scheme.{scheme}
use Rattle.seals.specs.Part.{digests_of_rows}
use Rattle.seals.proofs.sealing.write_row_digests.Given as goal

-- the rows so far have their digests
abbrev pub invariant-loop-index : goal.invariant-loop-index
invariant-loop-index g l =
    (length l.out ≡ 32 * (g.F.Family.shape l.family).rows)
    × (take (32 * l.index) l.out ≡ digests_of_rows (scheme g.D.Digest.digest g.D.Digest.KIND (g.F.Family.shape l.family)) (blocks_of l.sheet) 1 l.index)
