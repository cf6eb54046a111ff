pub mod Find
pub mod Matches
