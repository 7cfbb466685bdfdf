pub mod Blake2s
pub mod States
pub mod Absorbed
-- Proofs of laws: an impl cites them, and it can cite nothing of proofs/. No contract rests on what they say.
pub mod Chains
