pub mod Areas
pub mod Calls
pub mod Foreign
