pub mod Joining
pub mod Unpacking
mod Unique
