pub mod Rows
pub mod Lists
pub mod Apart
mod Numbered
pub mod Told
mod Unique
