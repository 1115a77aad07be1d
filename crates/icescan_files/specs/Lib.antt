pub mod Bundles
pub mod Disks
pub mod Folders
pub mod Stores
