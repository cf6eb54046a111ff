pub mod InMemory
pub mod Limits
