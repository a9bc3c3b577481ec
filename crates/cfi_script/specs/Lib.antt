pub mod Plan
pub mod Turns
pub mod TurnPlace
pub mod Script
pub mod Quiet
pub mod ScriptText
pub mod ScriptNumbers
