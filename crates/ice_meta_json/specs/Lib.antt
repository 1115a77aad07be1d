pub mod Objects
pub mod Upgraded
pub mod Laws
