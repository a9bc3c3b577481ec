pub mod Laws
pub mod Listing
pub mod Sides
pub mod Rising
mod Classing
mod Spanning
mod Pointing
mod Merging
mod Keeping
mod Reaching
mod Judged
mod Stepping
