pub mod Apart
pub mod Machines
pub mod PinCodes
pub mod Pins
pub mod Taken
