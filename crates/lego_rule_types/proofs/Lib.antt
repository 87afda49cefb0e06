pub mod NodeLemmas
pub mod ScopeLemmas
pub mod AgreeLemmas
pub mod FindLemmas
pub mod PlacedLemmas
pub mod CallLemmas
