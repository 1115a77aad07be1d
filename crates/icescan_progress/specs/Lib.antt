pub mod Asked
pub mod Hints
pub mod ProgressTexts
