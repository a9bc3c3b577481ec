-- What stands before the units of a program's places.
pub mod Entered
pub mod Entries
pub mod Leads
pub mod Leaves
pub mod Marks
