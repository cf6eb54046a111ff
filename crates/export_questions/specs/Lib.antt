pub mod Answers
pub mod Descriptions
