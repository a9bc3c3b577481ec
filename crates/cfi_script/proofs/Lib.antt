pub mod ScriptDigits
pub mod ScriptPlans
pub mod ScriptTurns
mod TurnPlaces
