pub mod TakingLemmas
pub mod OfferingLemmas
pub mod OrderLemmas
pub mod ReplyTexts
