pub mod Bench
pub mod Lines
pub mod Views
