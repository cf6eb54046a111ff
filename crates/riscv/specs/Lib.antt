pub mod Riscv
pub mod Domain
pub mod Reading
