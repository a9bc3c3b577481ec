mod Blocks
mod Grown
pub mod Spelled
mod Apart
mod Marked
