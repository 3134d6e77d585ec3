pub mod FigureLemmas
pub mod QuotingLemmas
pub mod ToldLemmas
pub mod TextLemmas
