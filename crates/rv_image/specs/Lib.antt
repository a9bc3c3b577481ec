pub mod MemoryMap
pub mod Version
pub mod Form
pub mod Image
