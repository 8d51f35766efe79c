pub mod Changing
pub mod Grouping
pub mod Stacking
pub mod Storing
pub mod Unsetting
