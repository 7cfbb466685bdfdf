pub mod Named
pub mod Opened
pub mod Made
pub mod Stopped
