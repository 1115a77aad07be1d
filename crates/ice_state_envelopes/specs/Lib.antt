pub mod Written
pub mod Envelopes
pub mod Joins
pub mod Trees
