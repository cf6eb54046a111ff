pub mod Promised
mod Unique
