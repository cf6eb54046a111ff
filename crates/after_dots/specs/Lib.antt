pub mod AfterDots
