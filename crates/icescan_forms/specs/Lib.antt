pub mod Objects
pub mod ObjectTexts
pub mod Pieces
