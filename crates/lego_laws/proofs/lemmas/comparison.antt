-- Lemmas for the laws of comparison.
pub mod Comparing
pub mod Differing
pub mod Counted
pub mod Reaching
pub mod Crossing
