pub mod Numbers
pub mod Words
pub mod Arithmetic
pub mod Questions
pub mod Refusals
pub mod Lists
