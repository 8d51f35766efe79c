pub mod Arises
pub mod Bytes
pub mod Faults
pub mod Grammar
pub mod Lines
pub mod Refusals
pub mod Tokens
pub mod Words
