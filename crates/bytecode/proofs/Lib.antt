pub mod Agreeing
pub mod Deepening
pub mod Describing
pub mod Spelling
pub mod Transferring
