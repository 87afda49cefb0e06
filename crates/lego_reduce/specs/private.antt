-- Definitions that only private functions and proofs need.
pub mod Faults
pub mod Frames
pub mod Nesting
