pub mod Fronts
pub mod Reading
pub mod Refusing
pub mod Spelling
pub mod Splitting
