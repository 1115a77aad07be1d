pub mod Written
pub mod NotReached
pub mod Refused
