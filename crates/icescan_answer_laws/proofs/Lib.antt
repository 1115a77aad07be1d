pub mod Asked
mod Worlds
pub mod NoMatch
