pub mod Causes
pub mod MoreGiven
pub mod NamedFiles
pub mod Reached
pub mod SameRows
pub mod Steps
