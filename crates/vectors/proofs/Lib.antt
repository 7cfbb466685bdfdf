pub mod Named
mod Filled
mod Rows
mod Taken
