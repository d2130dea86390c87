pub mod Lexemes
pub mod Answers
pub mod Order
pub mod Scans
pub mod OtherCase
