pub mod Notation
pub mod Course
pub mod Reading
pub mod Packing
