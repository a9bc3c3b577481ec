pub mod Prelude
pub mod Placing
pub mod ByGate
pub mod PartSizes
pub mod GroupedSizes
pub mod ShortList
pub mod Values
pub mod GroupFacts
pub mod Greedy
pub mod GroupsAgree
mod DirectTargets
pub mod LaterPlaces
pub mod LaterRuns
pub mod Shortened
pub mod PlacingLaws
pub mod Placements
mod LeanRows
mod LeanLines
mod SourceRows
