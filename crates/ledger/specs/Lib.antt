pub mod Ledger
pub mod Twelve
pub mod LastRegister
pub mod EvenStart
