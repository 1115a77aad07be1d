pub mod Bodies
pub mod Faults
pub mod Journeys
pub mod OfScans
pub mod States
