pub mod Faults
pub mod Given
pub mod Names
pub mod Shares
pub mod Together
