pub mod Moves
pub mod Trail
pub mod Laws
