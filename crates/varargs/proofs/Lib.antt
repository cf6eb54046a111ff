pub mod Scalars
pub mod Lists
pub mod Promised
mod Unique
