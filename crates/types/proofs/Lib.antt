pub mod Reading
pub mod Rows
pub mod Types
pub mod Sizes
pub mod Levels
pub mod Measuring
pub mod Answering
pub mod Limits
mod Unique
