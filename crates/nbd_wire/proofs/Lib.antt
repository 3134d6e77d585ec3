pub mod FieldLemmas
pub mod HeadLemmas
pub mod ReplyPlaces
pub mod OneSpelling
pub mod Places
pub mod OptionPlaces
pub mod PieceLemmas
pub mod BegunLemmas
