pub mod Missed
pub mod Others
