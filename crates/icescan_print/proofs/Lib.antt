pub mod Escapes
pub mod Kept
pub mod RangeTexts
pub mod Sends
pub mod Writes
