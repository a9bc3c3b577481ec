pub mod Reasons
pub mod Answers
pub mod Lines
pub mod Hex
pub mod Decimal
pub mod Reading
