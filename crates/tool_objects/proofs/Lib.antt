pub mod Prelude
mod FormProfile
mod Giving
pub mod Writing
pub mod Complete
pub mod Sources
pub mod Demonstrated
mod ImageSizes
mod WrittenBack
