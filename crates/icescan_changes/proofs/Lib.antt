pub mod Alike
pub mod Answered
pub mod Asking
pub mod Following
mod JsonTexts
pub mod Lacking
pub mod Meaning
pub mod MoreGiven
pub mod Plans
pub mod Telling
pub mod Walking
