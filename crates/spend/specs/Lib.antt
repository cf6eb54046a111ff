pub mod Ways
pub mod Spending
