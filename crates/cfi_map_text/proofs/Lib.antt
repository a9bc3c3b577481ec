pub mod MapLaws
pub mod MapWritten
