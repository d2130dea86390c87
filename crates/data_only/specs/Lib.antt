pub mod DataOnly
pub mod Plans
