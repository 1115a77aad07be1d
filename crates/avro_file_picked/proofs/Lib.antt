pub mod Values
pub mod FieldPaths
pub mod Picks
pub mod Rows
pub mod Placed
pub mod Guided
