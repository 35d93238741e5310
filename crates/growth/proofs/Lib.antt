pub mod Missed
pub mod Blocked
pub mod Weighed
pub mod Grown
pub mod Lists
