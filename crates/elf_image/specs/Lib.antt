pub mod Header
pub mod Spelling
pub mod Fault
pub mod RefusalText
