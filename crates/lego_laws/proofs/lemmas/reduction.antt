-- Lemmas for the laws of reduction.
pub mod Subst
pub mod Parallel
pub mod CommonReducts
pub mod Substituted
pub mod Mapping
pub mod Below
pub mod Stuck
pub mod Head
pub mod HeadSteps
pub mod Valued
pub mod After
pub mod NormalSteps
