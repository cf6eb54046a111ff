pub mod Caller
pub mod Back
pub mod Examples
