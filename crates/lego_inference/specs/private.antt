-- Definitions that only private functions and proofs need.
pub mod Faults
pub mod Gathering
pub mod Judging
pub mod Wanting
pub mod EntryCode
pub mod LocalCode
