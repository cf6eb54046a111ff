pub mod Leaves
pub mod Flattened
pub mod Writing
pub mod Records
pub mod Examples
