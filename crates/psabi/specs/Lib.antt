pub mod Psabi
pub mod Domain
pub mod Reading
pub mod Calls
