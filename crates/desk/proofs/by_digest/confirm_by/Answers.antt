use Rattle.desk.proofs.by_digest.confirm_by.Goals as goal

pub returns-in-Sha256 : goal.returns-in-Sha256
returns-in-Sha256 c = rw c.in-Sha256.is c.confirm.ensures

pub returns-in-Blake2s : goal.returns-in-Blake2s
returns-in-Blake2s c = rw c.in-Blake2s.is c.confirm-in-Blake2s.ensures
