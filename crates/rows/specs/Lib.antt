pub mod Codes
pub mod Row
