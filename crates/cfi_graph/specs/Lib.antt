pub mod Graph
pub mod Text
pub mod Lines
pub mod Calls
pub mod Reading
