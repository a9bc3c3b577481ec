pub mod Saved
pub mod Fresh
pub mod Law
pub mod LinkKept
pub mod StartSteps
pub mod Begins
pub mod KindSteps
pub mod OpeningSteps
