pub mod Algorithms
pub mod Names
pub mod Texts
