use Rattle.std.proofs.Common.{◌++◌, take}
use Rattle.std.specs.List.{flat_map}
use Rattle.digests.specs.Strings.{Bytes}
use Rattle.digests.proofs.buffered.Buffered.take.Given as goal

-- the blocks so far are absorbed
abbrev pub invariant-loop-block : goal.invariant-loop-block
invariant-loop-block g l =
    (bs : Bytes) → g.C.Compressor.absorbed l.initial.self.inner bs → g.C.Compressor.absorbed l.self.inner (bs ++ flat_map (λ b. b) (take l.block-index l.blocks))
