pub mod Refused
pub mod Verify
pub mod Run
pub mod Complete
