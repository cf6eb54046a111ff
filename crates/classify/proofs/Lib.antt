pub mod Steps
pub mod Sources
pub mod Registers
pub mod Agree
pub mod Accepted
pub mod Stacking
pub mod Ends
pub mod Walking
pub mod Operations
pub mod Given
pub mod Fastcall
pub mod Eight
mod Unique
