pub mod SafeRun
pub mod Launch
pub mod ScriptHarts
