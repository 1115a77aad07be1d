pub mod OfQuestions
pub mod Values
pub mod Words
