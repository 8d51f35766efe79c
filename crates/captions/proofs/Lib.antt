pub mod Gathering
pub mod Joining
pub mod Passing
pub mod Quoting
pub mod Showing
