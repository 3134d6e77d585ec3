pub mod Intervals
pub mod Tags
pub mod Clocks
pub mod LimitTags
