pub mod ActLaws
mod Unique
