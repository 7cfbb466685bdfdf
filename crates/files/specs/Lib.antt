pub mod File
pub mod Frames
pub mod RoundTrip
