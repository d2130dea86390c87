pub mod Renaming
pub mod Shared
