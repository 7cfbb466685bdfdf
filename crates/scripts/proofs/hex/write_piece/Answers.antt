use Rattle.std.proofs.Common.{◌<◌, ◌*◌, IsUtf8, take, length, rules, arith}
use Rattle.std.specs.List.{AllByRecursion}
use Rattle.std.proofs.ByRecursion.{All-from_get_or}
use Rattle.scripts.proofs.HexLemmas.{pairs_utf8}
use Rattle.scripts.proofs.hex.write_piece.Goals as goal

pub unwrap-requires : goal.unwrap-requires
unwrap-requires g c =
    let piece = c.args.piece.now in
    let below : AllByRecursion (λ b. b < 256) piece = All-from_get_or (λ b. b < 256) piece 0 (λ i h. omega (arith, c.type_inv.piece i)) in
    let text : IsUtf8 (take (2 * length piece) c.encode_piece-digits.result) = rw c.encode_piece-digits.ensures (pairs_utf8 piece below) in
    search rules
