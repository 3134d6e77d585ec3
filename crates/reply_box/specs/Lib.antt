pub mod Sessions
pub mod Box
pub mod Seats
