pub mod SamePlans
pub mod Verdict
pub mod Bound
pub mod Neighbours
pub mod Theorems
pub mod IdlChecked
