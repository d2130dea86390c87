pub mod Components
pub mod Plans
