pub mod Facts
pub mod Checked
