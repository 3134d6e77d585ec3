pub mod Answers
pub mod Commands
pub mod Figures
pub mod Metrics
pub mod Quoting
pub mod Sessions
pub mod Stats
pub mod Verbs
