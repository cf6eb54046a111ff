pub mod EachPiece
pub mod Put
pub mod Pair
pub mod Writing
mod Unique
