pub mod Members
pub mod Joined
pub mod Filling
