pub mod Verdicts
pub mod OnRows
pub mod Beside
mod Offs
mod Lowest
