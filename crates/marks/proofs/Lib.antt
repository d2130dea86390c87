pub mod Spellings
pub mod Starts
pub mod Reach
