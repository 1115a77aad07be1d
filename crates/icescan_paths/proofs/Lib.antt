pub mod Alike
pub mod Members
pub mod Searched
pub mod Unknown
