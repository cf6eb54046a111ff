pub mod CodeLaws
pub mod Answered
mod Unique
