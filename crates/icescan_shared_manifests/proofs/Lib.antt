pub mod MoreGiven
pub mod Rising
mod SameRows
pub mod Searches
pub mod Selecting
