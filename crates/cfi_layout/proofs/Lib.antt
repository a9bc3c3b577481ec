pub mod Offsets
pub mod Outwards
pub mod Flags
pub mod Lengthening
pub mod Loops
pub mod Widening
pub mod Passing
pub mod Exits
