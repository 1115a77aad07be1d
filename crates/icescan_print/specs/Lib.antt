pub mod Escaping
pub mod MadeDeletes
pub mod Pieces
pub mod PlanTexts
pub mod Ranges
pub mod Shown
pub mod TableTexts
pub mod Written
