mod InTurn
mod Marked
pub mod MoreGiven
mod Naming
mod Sharing
mod Together
pub mod Written
