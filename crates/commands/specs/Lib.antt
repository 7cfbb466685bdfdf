pub mod Names
pub mod Usages
pub mod Choices
pub mod Readings
pub mod Problems
pub mod Contents
