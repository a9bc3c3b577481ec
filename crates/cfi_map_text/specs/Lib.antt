pub mod Map
pub mod MapText
