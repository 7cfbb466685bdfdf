use Rattle.std.proofs.Common.{◌≡◌, ◌++◌}
use Rattle.std.specs.List.{flat_map}
use Rattle.digests.specs.Strings.{Bytes}
use Rattle.sheets.specs.Blocks.{blocks_of}
use Rattle.commands.proofs.demo.joined_digest.Given as goal

-- with the blocks that are left it is the whole text
abbrev pub invariant-loop-block : goal.invariant-loop-block
invariant-loop-block g l = (done : Bytes) × ((g.D.Digest.took l.digest done) × (done ++ flat_map (λ b. b) l.block-iterator ≡ flat_map (λ b. b) (blocks_of l.sheet)))
