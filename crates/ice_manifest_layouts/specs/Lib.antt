pub mod FieldPaths
pub mod Seen
pub mod RowsFound
