pub mod Lines
pub mod Named
pub mod Given
pub mod Reaches
pub mod Refused
