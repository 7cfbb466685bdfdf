mod Pieces
mod Tells
mod Turned
pub mod Known
mod Lines
