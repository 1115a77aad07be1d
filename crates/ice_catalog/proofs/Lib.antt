pub mod Apart
pub mod Steps
pub mod Taken
pub mod Whole
pub mod Midway
pub mod Truths
