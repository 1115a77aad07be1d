pub mod Each
pub mod Escapes
pub mod Lists
pub mod Members
pub mod Numbered
