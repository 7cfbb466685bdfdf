mod Summed
mod Following
mod Extended
mod Blocks
mod Padded
mod Choice
