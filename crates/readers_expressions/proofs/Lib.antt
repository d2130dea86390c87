pub mod Operations
pub mod Climbing
