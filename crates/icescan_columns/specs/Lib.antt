pub mod Columns
pub mod JsonTypes
pub mod Names
pub mod Told
pub mod Texts
pub mod TypeNames
pub mod JsonLines
