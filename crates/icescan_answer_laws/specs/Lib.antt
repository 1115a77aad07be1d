pub mod Asked
pub mod Relaxed
pub mod Untold
