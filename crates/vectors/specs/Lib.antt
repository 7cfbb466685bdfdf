pub mod Pieced
pub mod Asked
pub mod Families
pub mod Tags
pub mod LmsLines
pub mod Verbs
pub mod Prints
