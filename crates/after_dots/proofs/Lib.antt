pub mod AfterDots
pub mod Given
mod Unique
