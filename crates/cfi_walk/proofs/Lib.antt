pub mod Prelude
pub mod Reach
pub mod Sites
pub mod Unique
pub mod Led
pub mod Openings
