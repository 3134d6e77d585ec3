pub mod Alone
pub mod LimitTags
pub mod Calls
pub mod Lone
pub mod Parts
