pub mod Laid
pub mod Started
pub mod LeafLines
pub mod Targets
pub mod Behind
