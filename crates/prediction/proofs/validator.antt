pub mod Paths
pub mod Equivalence
pub mod Typing
pub mod Look
pub mod Fixpoint
pub mod Check
