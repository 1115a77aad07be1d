pub mod Joining
pub mod Steps
pub mod Decimals
pub mod OneSpelling
pub mod Lent
