pub mod Prelude
mod Listings
mod Untabled
mod Symbols
mod Sections
pub mod Reading
pub mod Encoded
pub mod Bridge
pub mod Spots
pub mod Drawn
pub mod Routines
pub mod Starts
pub mod Standing
pub mod Instructions
pub mod Transfers
pub mod Relocations
pub mod Pointers
pub mod Searches
pub mod NoFault
pub mod Weights
mod LineWeights
pub mod PlaceWeights
mod NoPolicy
mod Small
mod DataRoom
mod EnteredAtMain
mod Reached
mod Settled
mod AllInRange
mod Room
pub mod NothingRefused
