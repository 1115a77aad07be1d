pub mod Outcome
pub mod Sorting
