pub mod Look
pub mod Stack
pub mod Tasks
pub mod Written
