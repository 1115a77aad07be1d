pub mod Ids
pub mod Gone
pub mod Alone
pub mod Told
pub mod Kept
pub mod Parts
pub mod Stays
