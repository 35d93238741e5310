pub mod Places
pub mod Weights
pub mod Starts
pub mod Spared
pub mod Closing
pub mod Settled
pub mod Steps
