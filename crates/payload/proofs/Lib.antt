pub mod BytesLemmas
pub mod Overwriting
pub mod RowLemmas
