pub mod Replies
pub mod Rows
pub mod Faults
