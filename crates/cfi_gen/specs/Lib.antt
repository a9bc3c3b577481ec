pub mod Assembly
pub mod Lines
pub mod Code
pub mod Drawing
pub mod Demo
pub mod Writing
