pub mod Classes
pub mod Tables
pub mod Entries
pub mod Labels
pub mod Passes
