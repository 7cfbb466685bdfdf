pub mod Standing
pub mod Missed
pub mod Script
pub mod State
pub mod Answering
