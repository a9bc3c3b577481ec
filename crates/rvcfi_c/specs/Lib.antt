pub mod Answers
pub mod Plan
pub mod Calls
