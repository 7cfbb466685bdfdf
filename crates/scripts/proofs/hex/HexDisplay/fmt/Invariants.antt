use Rattle.std.proofs.Common.{◌≡◌, ◌++◌}
use Rattle.std.specs.Fmt.{HasWritten, IsPlainFormatter}
use Rattle.std.specs.Slice.Iter.{chunks_rest, chunks_size}
use Rattle.scripts.specs.Words.{Bytes}
use Rattle.scripts.specs.Hex.{pairs_text}
use Rattle.scripts.proofs.hex.HexDisplay.fmt.Given as goal

-- with the digits of the bytes that are left, what it has written is the digits of all
abbrev pub invariant-loop-piece : goal.invariant-loop-piece
invariant-loop-piece g l =
    (goal.iterator-loop-piece g).can_next l.piece-iterator
    × (goal.iterator-loop-piece g).is_finite l.piece-iterator
    × (chunks_size l.piece-iterator ≡ 32)
    × (IsPlainFormatter l.initial.f → (done : Bytes) × HasWritten g.W.Write.write_str_gives l.initial.f done l.f
    × (done ++ pairs_text (chunks_rest l.piece-iterator) ≡ pairs_text l.fn.self.0.now))
