pub mod Sorting
pub mod Sorts
pub mod Sizes
