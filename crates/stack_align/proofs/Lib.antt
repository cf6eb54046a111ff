pub mod Aligned
mod Unique
