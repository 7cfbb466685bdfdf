pub mod Acceptance
pub mod Named
