use Rattle.std.proofs.Common.{◌≡◌, ◌*◌, length, take}
use Rattle.scripts.specs.Hex.{pairs_text}
use Rattle.scripts.proofs.hex.encode_piece.Given as goal

-- the digits of the bytes so far are in their place
abbrev pub invariant-loop-i : goal.invariant-loop-i
invariant-loop-i l = (length l.digits ≡ 64) × (take (2 * l.i) l.digits ≡ pairs_text (take l.i l.piece))
