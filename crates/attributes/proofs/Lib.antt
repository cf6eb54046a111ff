pub mod NameLaws
pub mod Answered
pub mod SpellingLaws
mod Unique
