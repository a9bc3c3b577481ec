pub mod OneImage
pub mod Determined
