-- Definitions that only private functions and proofs need.
pub mod Codes
pub mod Faults
pub mod Lowering
pub mod Walks
pub mod Verdicts
