pub mod Ends
mod Unique
