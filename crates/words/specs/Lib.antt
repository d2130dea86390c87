pub mod Search
pub mod Comparison
pub mod Table
