pub mod Request
pub mod Explains
pub mod Outcomes
pub mod Finishing
pub mod Complete
