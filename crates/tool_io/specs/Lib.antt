pub mod Faults
pub mod Reading
pub mod Counted
pub mod Contents
pub mod Names
pub mod Entries
pub mod Memory
