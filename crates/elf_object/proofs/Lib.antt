pub mod Earlier
pub mod Rank
pub mod Sound
pub mod Right
pub mod Rows
