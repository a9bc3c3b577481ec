pub mod Confined
pub mod Laws
pub mod Unconfined
