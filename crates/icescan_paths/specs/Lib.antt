pub mod Paths
pub mod Spelling
pub mod Strays
