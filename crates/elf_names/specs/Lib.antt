pub mod Texts
pub mod Marks
pub mod Numbers
