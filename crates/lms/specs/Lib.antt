pub mod Strings
pub mod Lmots
pub mod Lms
pub mod Nodes
pub mod Key
pub mod Law
pub mod Worked
-- Proofs of laws: an impl cites them, and it can cite nothing of proofs/. No contract rests on what they say.
pub mod StringsLaw
pub mod LmotsLaw
pub mod FormLaw
pub mod TreeLaw
pub mod SigningLaw
pub mod KeyLaw
