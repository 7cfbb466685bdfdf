pub mod Sha256
pub mod Parts
pub mod Absorbed
pub mod Constants
-- Proofs of laws: an impl cites them, and it can cite nothing of proofs/. No contract rests on what they say.
pub mod Hashed
