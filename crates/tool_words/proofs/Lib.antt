mod Alike
mod Answered
mod Commands
mod Leaf
mod Many
mod Numbers
pub mod Top
