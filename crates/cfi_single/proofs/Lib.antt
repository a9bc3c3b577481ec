pub mod Prelude
pub mod Classes
pub mod Graphs
pub mod Prepared
pub mod Placed
pub mod Written
pub mod Hardened
pub mod Refused
mod Givings
