pub mod Copy
pub mod Dots
pub mod Putting
pub mod Digits
pub mod Decimal
mod Unique
