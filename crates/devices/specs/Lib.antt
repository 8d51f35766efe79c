pub mod Buffers
pub mod Costs
pub mod Formats
pub mod Hex
pub mod Keys
pub mod Laws
pub mod Panels
pub mod States
