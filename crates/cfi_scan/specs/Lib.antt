pub mod Calm
pub mod Carry
pub mod Packed
pub mod Stream
pub mod Pieces
