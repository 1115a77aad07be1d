pub mod Climbing
pub mod Cuts
pub mod Highest
