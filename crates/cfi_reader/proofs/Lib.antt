pub mod PlainWord
pub mod Halts
pub mod Steps
pub mod Table
mod Rows
pub mod Ahead
pub mod Law
pub mod Keeping
pub mod Entered
pub mod Followed
mod Told
pub mod Begin
pub mod Opening
pub mod FirstWord
pub mod Closed
