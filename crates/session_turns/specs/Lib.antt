pub mod SessionTurns
pub mod Offering
pub mod Taking
pub mod Outgoing
pub mod Writing
pub mod Doors
pub mod InOrder
