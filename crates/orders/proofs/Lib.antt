pub mod Bests
pub mod Cards
pub mod Rules
