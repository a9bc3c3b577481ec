pub mod Starts
pub mod Entries
pub mod Leaves
pub mod Spots
