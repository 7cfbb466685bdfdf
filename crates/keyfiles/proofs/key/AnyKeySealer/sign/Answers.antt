use Rattle.keyfiles.proofs.key.AnyKeySealer.sign.Goals as goal

pub returns-in-Lms-clause-yes : goal.returns-in-Lms-clause-yes
returns-in-Lms-clause-yes c = rw c.in-Lms.is c.sign-in-Lms.ensures.yes
