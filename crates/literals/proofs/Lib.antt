pub mod Taken
pub mod Reach
pub mod Strings
