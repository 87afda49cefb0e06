-- Definitions that only private functions and proofs need.
pub mod Faults
pub mod Variables
pub mod VariableCode
pub mod Values
pub mod Annotations
pub mod Parts
pub mod Binders
pub mod Sizes
