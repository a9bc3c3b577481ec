mod Noted
pub mod Listing
mod Counts
pub mod Chosen
mod Merged
mod ByWords
pub mod Sorting
mod Stood
pub mod OneObject
mod Finding
mod Functions
pub mod Sectioned
pub mod Resolves
mod Rows
