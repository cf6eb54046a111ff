pub mod Pass
pub mod Classify
pub mod Spending
pub mod Stacking
pub mod Answers
pub mod Parts
