pub mod Typing
pub mod Equivalence
pub mod Conditions
pub mod Fixpoint
pub mod Check
