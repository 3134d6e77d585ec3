pub mod Unrolled
pub mod Bounds
