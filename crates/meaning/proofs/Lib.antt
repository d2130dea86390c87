pub mod Laws
pub mod Deep
pub mod OneMeaning
pub mod SecondCall
pub mod Refusals
pub mod Outcomes
pub mod Samples
