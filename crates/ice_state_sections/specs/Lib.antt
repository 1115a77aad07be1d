pub mod Parts
pub mod Faults
pub mod Values
pub mod Files
pub mod Entries
pub mod Sections
pub mod Written
