pub mod Exports
pub mod Refusals
pub mod Terms
pub mod Verdict
pub mod Meaning
