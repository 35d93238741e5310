pub mod Text
pub mod Lines
pub mod Theorems
pub mod Examples
