pub mod Check
pub mod Accepted
mod Unique
