pub mod Choices
pub mod Ranges
pub mod Blocks
pub mod Rests
pub mod Runs
pub mod Sizes
