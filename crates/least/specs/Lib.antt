pub mod First
pub mod Least
pub mod Nearest
pub mod Laws
