pub mod Filters
pub mod Lying
pub mod Spelling
pub mod Columns
pub mod Faults
