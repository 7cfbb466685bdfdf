pub mod Table
pub mod Blocks
pub mod Calls
