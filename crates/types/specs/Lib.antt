pub mod Entries
pub mod Tree
pub mod Trees
pub mod Table
