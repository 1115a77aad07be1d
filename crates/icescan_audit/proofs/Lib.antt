pub mod AnyFiles
pub mod Premise
pub mod Others
pub mod Strays
pub mod Totals
mod Numerals
pub mod Steps
pub mod Ranges
mod Sends
pub mod Honest
pub mod JsonWritten
pub mod NextManifest
