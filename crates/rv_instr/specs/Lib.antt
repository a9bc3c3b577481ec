pub mod Fence
pub mod InRange
pub mod Operands
pub mod Registers
pub mod Reserved
