pub mod Words
pub mod Range
pub mod Least
pub mod Logs
