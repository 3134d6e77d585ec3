pub mod EntryLemmas
pub mod ExportLemmas
pub mod WholeLemmas
