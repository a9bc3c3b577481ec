pub mod Told
pub mod State
pub mod Placed
pub mod MapLine
pub mod Running
pub mod Beginning
pub mod Laws
