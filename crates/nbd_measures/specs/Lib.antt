pub mod Holds
pub mod Waits
