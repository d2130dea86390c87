pub mod Shared
pub mod Carried
