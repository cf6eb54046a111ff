pub mod Spending
