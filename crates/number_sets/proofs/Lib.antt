pub mod CountLemmas
pub mod RangeLemmas
pub mod BitsLemmas
pub mod LeastLemmas
pub mod MarksLemmas
