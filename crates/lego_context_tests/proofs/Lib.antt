pub mod EntryLemmas
pub mod FixtureLemmas
pub mod FrontLemmas
