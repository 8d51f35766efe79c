pub mod Descriptors
pub mod FrameExamples
pub mod Frames
pub mod Instructions
pub mod Kinds
pub mod Mnemonics
pub mod Signatures
