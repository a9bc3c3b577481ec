pub mod Tables
pub mod Called
mod Spoiling
pub mod Ends
