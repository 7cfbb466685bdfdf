use Rattle.desk.proofs.sealing.seal_into.Goals as goal

pub returns-in-Sha256-clause-law : goal.returns-in-Sha256-clause-law
returns-in-Sha256-clause-law g c = rw c.in-Sha256.is c.seal_by.ensures.law

pub returns-in-Blake2s-clause-law : goal.returns-in-Blake2s-clause-law
returns-in-Blake2s-clause-law g c = rw c.in-Blake2s.is c.seal_by-in-Blake2s.ensures.law
