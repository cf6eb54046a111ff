pub mod Placing
pub mod Standing
pub mod Told
mod Unique
