pub mod Prelude
mod Few
pub mod InstrAt
pub mod UnitOf
pub mod LeanWords
mod LeanKinds
pub mod LeanUnits
pub mod Grouping
pub mod GateSteps
pub mod LeadWords
mod LeadKinds
pub mod Runs
pub mod CodeRoom
pub mod Standing
pub mod GroupUnit
pub mod GroupLoops
pub mod NextPlaces
pub mod Pieces
pub mod PlaceUnits
pub mod Fitting
pub mod Labelled
pub mod ClassLines
pub mod LeafLines
mod LeafStarts
pub mod FreshStarts
pub mod HeadLines
pub mod SideLabels
mod BorneLabels
pub mod Starts
pub mod Leading
mod UnitKinds
mod UnitsAdmitted
pub mod SoundCode
pub mod WholeLines
pub mod WholeCode
pub mod SitesThere
pub mod MapFits
pub mod ClassLabels
pub mod SiteNumbers
pub mod Gates
pub mod Aims
pub mod UnitList
pub mod WholeImage
pub mod LineList
pub mod PlaceLines
pub mod Plain
pub mod Entering
mod WrittenRows
mod AcceptedRow
mod LeanRows
