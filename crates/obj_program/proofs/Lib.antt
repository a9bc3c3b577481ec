pub mod Ordered
pub mod Packing
pub mod Read
pub mod Applied
pub mod Kept
pub mod Linked
pub mod Ranges
pub mod Exact
