pub mod SlotLaws
pub mod BoundLaws
pub mod StepLaws
pub mod StepsLaws
pub mod ChunkLaws
pub mod Chunks
mod Unique
