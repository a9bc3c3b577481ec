pub mod Prelude
mod Steps
mod Data
mod Parts
mod Marks
pub mod InOrder
pub mod Pushed
mod Addresses
mod Instructions
mod Linking
mod Without
mod Lone
pub mod Suited
pub mod NoFault
pub mod LookUp
pub mod Behind
pub mod Plain
pub mod Starts
pub mod Targets
pub mod Bounds
pub mod Patches
pub mod DataLies
mod DataEnds
pub mod MapFit
pub mod LastEnds
pub mod ProgramSound
pub mod SaidFits
pub mod ObjectFits
mod AllFit
mod Among
mod Alone
