pub mod OneClass
pub mod ByCode
pub mod Marks
pub mod Rest
pub mod Counts
pub mod Pair
pub mod Found
pub mod At
mod Unique
