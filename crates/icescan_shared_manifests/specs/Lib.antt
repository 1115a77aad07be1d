pub mod Both
pub mod GivenBoth
pub mod Shared
