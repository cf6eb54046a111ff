mod Described
mod Looked
mod Aligned
mod Unique
