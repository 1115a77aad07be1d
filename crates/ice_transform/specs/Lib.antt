pub mod Cuts
pub mod Definitions
pub mod Floors
pub mod Murmur
pub mod Names
pub mod Parameters
pub mod Values
pub mod Years
