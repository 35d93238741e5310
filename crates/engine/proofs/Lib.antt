mod Grown
mod Meetings
mod Settling
mod Turns
