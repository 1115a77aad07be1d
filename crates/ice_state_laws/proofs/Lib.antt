pub mod Entries
pub mod Finishing
pub mod Honest
pub mod Lists
pub mod Refusals
pub mod Snapshots
