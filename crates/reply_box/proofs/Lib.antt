pub mod Below
pub mod Seats
pub mod Worth
