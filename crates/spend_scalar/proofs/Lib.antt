pub mod Spending
pub mod Given
mod Unique
