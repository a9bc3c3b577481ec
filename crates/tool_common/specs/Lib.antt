pub mod Lines
pub mod Words
pub mod Writes
pub mod Reads
pub mod Held
