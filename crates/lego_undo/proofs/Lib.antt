pub mod FrontLemmas
mod HistoryLemmas
