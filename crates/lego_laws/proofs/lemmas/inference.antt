-- Lemmas for the laws of inference.
pub mod Satisfying
pub mod Agreeing
pub mod LevelsKept
pub mod LevelsWithin
pub mod Bounded
pub mod Solving
pub mod FitsBinder
pub mod FitsLeaf
pub mod FitsApp
pub mod FitsPair
pub mod InferenceLaws
pub mod FitsLocal
