pub mod PrintingLaws
pub mod BoundLaws
pub mod LineLaws
mod Unique
