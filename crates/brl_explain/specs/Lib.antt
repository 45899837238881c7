pub mod Explaining
pub mod Details
pub mod Opcodes
pub mod InFile
pub mod Operands
