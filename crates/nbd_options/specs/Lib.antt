pub mod Exports
pub mod Replies
pub mod Counting
pub mod Asking
pub mod Haggled
