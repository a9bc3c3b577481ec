pub mod Capped
pub mod Gathered
pub mod InOrder
pub mod Unchanged
pub mod Gave
pub mod Held
