pub mod Records
pub mod Known
pub mod Reading
