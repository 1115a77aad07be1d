mod Crews
mod Desks
mod Finishing
pub mod Given
mod Keeps
pub mod Taking
mod Works
