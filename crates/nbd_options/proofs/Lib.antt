pub mod TypeLemmas
pub mod HeadLemmas
pub mod InfoLemmas
pub mod TurnLemmas
