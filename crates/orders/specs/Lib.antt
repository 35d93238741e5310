pub mod Bests
pub mod Rules
pub mod Searches
