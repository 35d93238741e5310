pub mod Placed
pub mod Texts
