pub mod Compare
pub mod Parser
pub mod Maximal
pub mod Word
pub mod Viable
