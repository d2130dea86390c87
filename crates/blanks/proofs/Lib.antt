pub mod Closing
pub mod Reach
