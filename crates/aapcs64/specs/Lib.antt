pub mod Aapcs64
pub mod Reading
pub mod Domain
