pub mod Lines
pub mod Head
pub mod Refused
pub mod Checked
pub mod Sealed
