pub mod Keys
pub mod Words
pub mod Making
pub mod Files
pub mod Uses
pub mod Drawing
-- Proofs of laws: an impl cites them, and it can cite nothing of proofs/. No contract rests on what they say.
pub mod KeyLaws
