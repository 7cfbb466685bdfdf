use Rattle.std.proofs.Common.{◌%◌}
use Rattle.blake2s.proofs.Rows.{sigma_below}
use Rattle.blake2s.proofs.rounds.scheduled.Goals as goal

pub word_at-requires : goal.word_at-requires
word_at-requires g c = rw c.from.ensures (sigma_below (g.row.R % 10) c.args.k)
