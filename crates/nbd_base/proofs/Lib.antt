pub mod Least
pub mod Numbers
pub mod Words
pub mod Logs
