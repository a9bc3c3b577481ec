pub mod Every
pub mod Writing
pub mod Bounds
pub mod Right
