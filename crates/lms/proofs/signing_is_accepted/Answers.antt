use Rattle.lms.specs.SigningLaw.{signing_is_accepted}
use Rattle.lms.proofs.signing_is_accepted.Goals as goal

pub returns : goal.returns
returns c = signing_is_accepted
