pub mod Scan
pub mod Answer
pub mod Pass
