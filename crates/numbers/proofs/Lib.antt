pub mod Within
pub mod Integers
pub mod Parts
pub mod Forms
