pub mod Sets
pub mod Forest
pub mod Record
pub mod Blame
pub mod Depth
pub mod Leaves
pub mod Nesting
pub mod Facts
