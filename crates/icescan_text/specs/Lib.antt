pub mod Changes
pub mod FaultTexts
pub mod Faults
pub mod Reads
pub mod Workers
pub mod Writes
