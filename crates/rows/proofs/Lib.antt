pub mod Numbers
pub mod Inverse
pub mod Packed
mod Unique
