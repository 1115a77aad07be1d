pub mod Handed
pub mod Next
