pub mod Access
pub mod Cells
pub mod Pages
