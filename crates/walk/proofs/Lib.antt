mod Copies
mod Looks
mod Pieces
mod Stacks
mod Walks
