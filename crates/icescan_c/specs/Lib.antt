pub mod Calls
pub mod Handles
pub mod Kept
pub mod Making
pub mod Readings
pub mod States
