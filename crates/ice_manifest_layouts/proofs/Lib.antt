pub mod Records
pub mod Shown
pub mod RowsShown
pub mod RowsGuided
