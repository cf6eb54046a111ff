pub mod Fair
pub mod Registers
pub mod Ranges
pub mod Ledger
pub mod Twelve
pub mod Decided
mod AllSpent
pub mod LastRegister
pub mod EvenStart
