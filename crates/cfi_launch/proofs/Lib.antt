pub mod ScriptHarts
pub mod Determined
