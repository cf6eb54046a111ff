pub mod Codes
pub mod Decoded
pub mod Followed
pub mod Answers
