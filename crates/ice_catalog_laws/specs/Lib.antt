pub mod Calls
pub mod Counts
pub mod Playing
pub mod Workers
