pub mod Weaker
pub mod Read
pub mod Alone
