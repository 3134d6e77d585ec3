pub mod Kept
pub mod Fronts
pub mod Logs
pub mod Moves
pub mod Queues
pub mod Rounds
