pub mod InMemory
pub mod InPages
pub mod OverBytes
pub mod Placed
