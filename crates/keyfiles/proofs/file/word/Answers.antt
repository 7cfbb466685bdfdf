use Rattle.std.proofs.Common.{◌<◌, arith}
use Rattle.std.specs.List.{AllByRecursion}
use Rattle.std.proofs.ByRecursion.{All-from_get_or}
use Rattle.scripts.proofs.HexLemmas.{hex_back}
use Rattle.keyfiles.proofs.file.word.Goals as goal

pub returns-clause-back : goal.returns-clause-back
returns-clause-back c =
    let bytes = c.args.bytes.now in
    let below : AllByRecursion (λ b. b < 256) bytes = All-from_get_or (λ b. b < 256) bytes 0 (λ i h. omega (arith, c.type_inv.bytes i)) in
    hex_back bytes below
