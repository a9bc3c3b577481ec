pub mod RegisterFile
