pub mod Abis
pub mod RowNumbers
pub mod Answers
pub mod Brief
pub mod Apart
