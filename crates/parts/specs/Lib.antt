pub mod Kinds
pub mod Models
pub mod Sets
