pub mod Entries
pub mod PlainWord
pub mod Left
pub mod Kept
pub mod Nodes
pub mod Reading
pub mod Trying
pub mod FirstStep
