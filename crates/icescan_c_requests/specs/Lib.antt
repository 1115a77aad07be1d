pub mod Handed
pub mod Hints
pub mod Reasons
pub mod Requests
pub mod Statuses
pub mod Texts
