pub mod Prelude
pub mod Together
mod Slotted
pub mod Whole
mod Sectioned
mod Composed
pub mod Named
