pub mod KnownLemmas
pub mod BufferLemmas
pub mod FrameLemmas
pub mod IntakeLemmas
pub mod TextPartLemmas
