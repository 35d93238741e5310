pub mod Calls
pub mod Exact
pub mod States
pub mod Stays
