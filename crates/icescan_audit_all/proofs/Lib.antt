pub mod Asked
pub mod Bases
pub mod MoreGiven
pub mod SameRows
pub mod Stops
mod Told
