pub mod Symbols
pub mod Sections
pub mod SaidOf
pub mod Resolution
pub mod Names
