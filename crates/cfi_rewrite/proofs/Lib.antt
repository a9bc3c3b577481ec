pub mod OfHardened
