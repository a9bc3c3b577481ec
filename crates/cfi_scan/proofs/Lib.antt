pub mod Row
pub mod Ended
pub mod Pieces
