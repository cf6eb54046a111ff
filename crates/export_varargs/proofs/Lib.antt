pub mod Shown
mod Unique
