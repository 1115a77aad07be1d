pub mod Fields
pub mod Files
pub mod Honesty
pub mod Limits
pub mod Projection
pub mod Summaries
pub mod Tuples
