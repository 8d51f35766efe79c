pub mod Changes
pub mod Registers
pub mod Stacks
