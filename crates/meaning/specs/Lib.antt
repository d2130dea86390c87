pub mod Deep
pub mod Sense
pub mod Verdict
pub mod Answer
pub mod Calls
pub mod Samples
