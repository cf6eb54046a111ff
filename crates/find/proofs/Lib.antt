pub mod AllAlike
pub mod Each
pub mod Tests
pub mod Finds
pub mod Matching
mod Unique
