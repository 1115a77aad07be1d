pub mod Stepped
pub mod Counts
pub mod Rows
pub mod Squares
pub mod Trees
pub mod Turns
