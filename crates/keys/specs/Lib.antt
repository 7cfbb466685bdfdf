pub mod Key
pub mod Token
pub mod Tag
-- Proofs of laws: an impl cites them, and it can cite nothing of proofs/. No contract rests on what they say.
pub mod Same
