pub mod CommandLines
pub mod Heard
pub mod Matched
