pub mod Editions
pub mod Demands
