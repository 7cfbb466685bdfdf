use Rattle.seals.specs.Scheme.{scheme}
use Rattle.seals.proofs.Confirmed.{held_row}
use Rattle.seals.proofs.accepted.Accepted.passes_around.Goals as goal

pub is_row_digest-requires : goal.is_row_digest-requires
is_row_digest-requires g c =
    held_row (scheme g.D.Digest.digest g.D.Digest.KIND (g.F.Family.shape c.args.family.now)) c.args.self.now.part.now c.args.row.0 c.args.offer.now.number.0
    (g.met.F.Family.lawful c.args.family.now) c.requires.scheme c.requires.held
