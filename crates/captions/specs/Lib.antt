pub mod Captions
pub mod Sheets
