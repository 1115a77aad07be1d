pub mod Deletes
pub mod Orders
pub mod RoundTrip
pub mod Texts
pub mod Pairs
