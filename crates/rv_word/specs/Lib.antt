pub mod Bits
pub mod End
pub mod Numbers
pub mod Memory
pub mod Same
pub mod Multiply
pub mod Divide
pub mod DivideLaws
