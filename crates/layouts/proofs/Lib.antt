pub mod Making
pub mod Members
pub mod Passing
pub mod Told
mod Unique
