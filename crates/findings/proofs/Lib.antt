pub mod Printable
pub mod Suspects
pub mod Opened
