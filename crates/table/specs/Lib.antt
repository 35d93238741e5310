pub mod Cards
pub mod Filling
pub mod Lists
pub mod Opening
