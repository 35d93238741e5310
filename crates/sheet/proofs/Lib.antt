pub mod Memory
pub mod Steps
