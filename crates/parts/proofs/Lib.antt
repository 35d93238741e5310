pub mod Bits
pub mod Shown
pub mod Words
