pub mod Prelude
mod Inside
mod LegalGates
mod LegalLines
mod Beginnings
mod Prefixes
mod Members
mod Listing
