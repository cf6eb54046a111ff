pub mod Given
pub mod Ways
mod Unique
