pub mod Areas
pub mod Pairs
pub mod Cuts
pub mod Vertices
pub mod Inside
pub mod Flat
pub mod Apart
mod Worked
pub mod Proved
pub mod Reading
