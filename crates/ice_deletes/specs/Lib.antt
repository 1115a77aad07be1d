pub mod Found
pub mod Groups
pub mod Indexes
pub mod Keys
pub mod Shelves
pub mod Trees
pub mod Unions
pub mod Neighbours
