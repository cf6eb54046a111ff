pub mod Demands
pub mod Entries
mod Refusing
mod Answering
mod Performed
mod Listing
mod Carried
pub mod Placed
mod Ending
mod Typing
