pub mod Fronts
pub mod Parts
pub mod Coming
pub mod Faults
