use Rattle.std.proofs.Common.{◌∙◌}
use Rattle.lms.proofs.Loops.{lms_candidate_at}
use Rattle.lms.proofs.public.candidate.Goals as goal

pub returns : goal.returns
returns g c =
    let leaf = c.args.leaf.now in
    c.root_candidate.ensures
    ∙ lms_candidate_at g.D.Digest.digest leaf.id leaf.number c.args.text.now c.args.signature.now c.candidate.result c.requires c.candidate.ensures
