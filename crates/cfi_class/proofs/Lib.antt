pub mod Agreeing
pub mod Chains
pub mod Grouping
pub mod Indexes
pub mod LabelsGiven
pub mod Numbers
pub mod Sets
pub mod Finding
mod Entering
pub mod Rising
