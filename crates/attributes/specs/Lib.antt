pub mod Attributes
pub mod Spellings
pub mod Answers
