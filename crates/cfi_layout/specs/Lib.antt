pub mod Starts
pub mod LongSet
pub mod Laws
pub mod Lengthening
