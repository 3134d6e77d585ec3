pub mod Streams
pub mod Frames
pub mod Intake
