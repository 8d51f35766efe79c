pub mod Appending
pub mod Costing
pub mod Decoding
pub mod Formats
