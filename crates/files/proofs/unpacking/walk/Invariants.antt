use Rattle.std.proofs.Common.{◌≡◌, ◌+◌, ◌-◌, ◌≤◌, length}
use Rattle.seals.proofs.FirstFrame.{Small}
use Rattle.files.specs.File.{is_frames}
use Rattle.files.proofs.Walked.{holds_from}
use Rattle.files.proofs.unpacking.walk.Given as goal

-- the whole is exact exactly if what is left is, with the bytes so far
abbrev pub invariant-loop-index : goal.invariant-loop-index
invariant-loop-index l =
    (is_frames l.count l.frames ≡ holds_from (l.index + 1) (l.count - l.index) l.total l.left) × Small l.left × (l.total + length l.left ≤ length l.frames)
