pub mod Exact
pub mod Number
pub mod Parts
pub mod Place
pub mod Heads
