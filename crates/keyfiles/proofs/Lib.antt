mod Back
mod Lines
