pub mod Areas
pub mod Cubes
pub mod Tables
pub mod Examples
pub mod Lists
pub mod Theorems
