pub mod Spelled
pub mod Opening
pub mod Judgement
pub mod Numbers
pub mod Room
