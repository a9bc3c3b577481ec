pub mod Header
pub mod Section
pub mod Names
pub mod Kept
pub mod Table
pub mod Symbol
pub mod Relocation
pub mod Lookup
