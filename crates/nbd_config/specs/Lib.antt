pub mod Entries
pub mod Configured
