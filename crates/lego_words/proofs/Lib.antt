mod FormLemmas
mod OptionLemmas
mod PassedLemmas
mod LawLemmas
mod MatchLemmas
