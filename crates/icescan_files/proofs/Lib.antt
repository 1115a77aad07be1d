pub mod Inputs
pub mod LastSlash
pub mod Lines
pub mod Lookups
pub mod Placed
pub mod Segments
pub mod Stored
pub mod DigitValues
