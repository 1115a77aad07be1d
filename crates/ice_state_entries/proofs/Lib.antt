pub mod Growing
pub mod Interning
pub mod Keeping
pub mod Lists
pub mod Rows
