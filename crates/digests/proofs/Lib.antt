mod Pads
pub mod Mapped
mod Same
mod Held
