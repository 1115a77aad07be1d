pub mod Added
pub mod EntriesAdded
pub mod FaultsAdded
pub mod Loops
pub mod OfRow
pub mod SectionsAdded
pub mod Texts
pub mod ValuesAdded
