pub mod Stored
pub mod Asked
pub mod Steps
pub mod Back
pub mod Eights
pub mod Examples
