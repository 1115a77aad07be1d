pub mod Picked
pub mod Finding
pub mod Rows
pub mod Placing
pub mod Guides
