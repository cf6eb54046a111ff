pub mod Bools
pub mod Lists
pub mod Cases
pub mod Words
pub mod Put
pub mod Stored
pub mod Rounding
pub mod Questions
pub mod Refused
pub mod OneAnswer
mod Unique
