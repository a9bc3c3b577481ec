pub mod Value
pub mod Word
pub mod Data
pub mod Pair
