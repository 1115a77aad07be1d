pub mod SetApart
pub mod KeptFiles
pub mod KeptReached
pub mod MoreKept
pub mod OnlyKept
pub mod Split
