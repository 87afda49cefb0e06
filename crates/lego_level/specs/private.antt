-- Definitions that only private functions and proofs need.
pub mod Adjacency
pub mod Faults
pub mod Incidence
pub mod Lowest
pub mod Measures
pub mod Outcomes
pub mod Potentials
pub mod Searches
pub mod Steps
