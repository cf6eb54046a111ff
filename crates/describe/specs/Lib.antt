pub mod Description
pub mod Questions
pub mod Dots
