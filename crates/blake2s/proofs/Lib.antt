mod Begun
mod Quads
mod Rows
