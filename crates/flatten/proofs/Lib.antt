pub mod Pour
pub mod Steps
pub mod Pieces
pub mod Paths
pub mod Typed
pub mod Answering
pub mod Passing
pub mod Flattening
pub mod Scalars
pub mod Examples
mod Unique
