pub mod Finishing
pub mod Honesty
pub mod Plans
