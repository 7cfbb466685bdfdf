mod Worked
mod Loops
