-- Definitions that only private functions and proofs need.
pub mod Causes
pub mod Codes
pub mod Walks
