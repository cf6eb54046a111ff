pub mod ReadBack
mod Unique
