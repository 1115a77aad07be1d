pub mod Walk
pub mod Sound
pub mod Faults
