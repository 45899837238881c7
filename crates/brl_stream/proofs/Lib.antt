pub mod KnownBytes
pub mod FirstLineLemmas
pub mod LineLemmas
pub mod OutputLemmas
mod SameOutput
pub mod StreamLemmas
pub mod VerdictLemmas
pub mod BufferLemmas
pub mod LackingLemmas
