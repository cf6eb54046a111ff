pub mod Words
pub mod Cut
pub mod Search
