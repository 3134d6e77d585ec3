pub mod ExportLemmas
pub mod VerdictLemmas
