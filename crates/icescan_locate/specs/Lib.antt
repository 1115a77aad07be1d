pub mod Located
pub mod Dated
