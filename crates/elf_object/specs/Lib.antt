pub mod Header
pub mod Kind
pub mod Table
pub mod Symbol
pub mod Stray
pub mod Fault
pub mod FaultText
pub mod Laws
